-- States: `principal_value`: for y below zero R_C(x, y) is √(x / (x - y)) R_C(x - y, -y), as the Rust writes it: -y is above zero, so that its loop is R_C.
-- Assumes nothing.
use Rattle.std.specs.Prelude.{◌≡◌, refl, Bool, true, false, ℕ, ◌+◌, ◌*◌, ◌<◌, ℤ, Float}
use Rattle.std.proofs.Common.{subst, lt_irrefl, zero-mul, arith, ltb→lt, lt→ltb}
use Rattle.std.proofs.lemmas.Bool.{false≢true}
use Rattle.std.specs.Float.{nan, inf, fin}
use Rattle.std.specs.Float.Ieee.{up, down, of_bits, neg, lt, eq}
use Rattle.std.specs.Float.Ieee.Positive.{first_pos}
use Rattle.doubles.specs.Rounded.{◌⊖◌, ◌⊘◌}
use Rattle.doubles.specs.Constants.{0·0}
use Rattle.doubles.proofs.Signs.{true→T, is-zero, above_zero}
use Rattle.roots.specs.Root.{Root}
use Rattle.carlson.specs.Rc.{times_integral, rc}

below_none : (a b : ℕ) → b ≡ 0 → a < b → ⊥
below_none a b e h = omega arith

-- a zero is not below zero
zero-not-below : (s : Bool) (e : ℤ) → lt (fin s 0 e) 0·0 ≡ true → ⊥
unfolding lt of_bits
zero-not-below true e h = lt_irrefl 0 (subst (λ (n : ℕ). 0 < n) (rw (zero-mul (up e), zero-mul (down e))) (ltb→lt 0 (0 * up e * 1 + 0 * down e) (true→T h)))
zero-not-below false e h = below_none (0 * up e * 1) (0 * down e) (zero-mul (down e)) (ltb→lt (0 * up e * 1) (0 * down e) (true→T h))

not-zero : (y : Float) → lt y 0·0 ≡ true → eq y 0·0 ≡ false
not-zero y h = go (eq y 0·0) refl
  where
    go : (b : Bool) → eq y 0·0 ≡ b → b ≡ false
    go true e = let z = is-zero y e in absurd (zero-not-below z.0 z.1 (subst (λ (v : Float). lt v 0·0 ≡ true) z.2 h))
    go false e = refl

-- -y is neither zero nor below it
opposite : (y : Float) → lt y 0·0 ≡ true → (eq (neg y) 0·0 ≡ false) × (lt (neg y) 0·0 ≡ false)
unfolding lt eq neg of_bits
opposite nan h = absurd (false≢true h)
opposite (inf true) h = (refl, refl)
opposite (inf false) h = absurd (false≢true h)
opposite (fin true m e) h = above_zero (fin false m e) (lt→ltb 0 m (first_pos m (up e) (digits (m * up e) (0 * down e) (zero-mul (down e)) (ltb→lt 0 (m * up e * 1 + 0 * down e) (true→T h)))))
  where
    digits : (a b : ℕ) → b ≡ 0 → 0 < a * 1 + b → 0 < a
    digits a b z g = omega arith
opposite (fin false m e) h = absurd (below_none (m * up e * 1) (0 * down e) (zero-mul (down e)) (ltb→lt (m * up e * 1) (0 * down e) (true→T h)))

pub principal_value : (x y : Float) → lt y 0·0 ≡ true → rc x y ≡ times_integral (Root (x ⊘ (x ⊖ y))) (rc (x ⊖ y) (neg y))
unfolding rc
principal_value x y h = let o = opposite y h in rw (not-zero y h, h, o.0, o.1)
