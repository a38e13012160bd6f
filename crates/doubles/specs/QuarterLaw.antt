-- States: `quarter_as_product`: a quotient by 4 is the product with 0·25, for every double: NaN, the infinities, both zeros, subnormal numbers, and numbers whose quarter falls
-- below the normal ones. There the exact quarter may lie between two doubles; either side rounds that one number once. Assumes nothing.
use Rattle.std.specs.Prelude.{◌≡◌, refl, Bool, true, false, ℕ, ◌*◌, ℤ, Float}
use Rattle.std.proofs.Common.{sym, ap, ◌∙◌, mul-one, one-mul}
use Rattle.std.specs.Float.{nan, inf, fin, binary64}
use Rattle.std.specs.Float.Ieee.{of_bits, mul, div, round, up, down}
use Rattle.doubles.specs.Rounded.{◌⊗◌, ◌⊘◌}
use Rattle.doubles.specs.Constants.{0·25, 4·0}

-- m 2ᵉ / 4 as the quotient and as the product have it
same_number : (s : Bool) (m : ℕ) (e : ℤ) → round binary64 s (m * up e * 1) (4 * down e) ≡ round binary64 s (1 * (m * up e)) (4 * down e)
same_number s m e = ap (λ (n : ℕ). round binary64 s n (4 * down e)) (mul-one (m * up e) ∙ sym (one-mul (m * up e)))

pub quarter_as_product : (w : Float) → w ⊘ 4·0 ≡ 0·25 ⊗ w
unfolding of_bits mul div
quarter_as_product nan = refl
quarter_as_product (inf true) = refl
quarter_as_product (inf false) = refl
quarter_as_product (fin true m e) = same_number true m e
quarter_as_product (fin false m e) = same_number false m e
