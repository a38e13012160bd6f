-- The constants of Carlson's integrals and of the ring. States: `constants_are_nearest`: those with a decimal value are the doubles nearest it. Of the three powers
-- of ε, which are as the reference build has them: `eighth_is_nearest`: one is the nearest double; `sixth_is-two-low` and `sixth_of_quarter-is`: two are a few units
-- in the last place low, since the Rust's exponent is -1/6 rounded. They bound an error, and enter no value. Assumes nothing.
use Rattle.std.specs.Prelude.{◌≡◌, refl, [], ◌∷◌, false, ℕ, ◌+◌, ◌-◌, ◌*◌, ◌^◌, ◌<◌, negsuc}
use Rattle.std.proofs.Common.{lit≤}
use Rattle.std.specs.Float.{fin}
use Rattle.std.specs.Float.Ieee.{round, of_bits}
use Rattle.doubles.specs.ConstantsAreNearest.{◌over◌}
use Rattle.carlson.specs.Constants.{[3ε]^-⅛, 22·0, 159·0, 208·0}
use Rattle.special_rf_rd.specs.Constants.{[3ε]^-⅙, [ε/4]^-⅙, 14·0, 26·0, 44·0, 52·0, 88·0}
use Rattle.rings.specs.Constants.{9e-8, 16·0, 72·0}

pub constants_are_nearest :
    22·0 ∷ 159·0 ∷ 208·0 ∷ 14·0 ∷ 26·0 ∷ 44·0 ∷ 52·0 ∷ 88·0 ∷ 9e-8 ∷ 16·0 ∷ 72·0 ∷ []
    ≡ 22 over 1 ∷ 159 over 1 ∷ 208 over 1 ∷ 14 over 1 ∷ 26 over 1 ∷ 44 over 1 ∷ 52 over 1 ∷ 88 over 1 ∷ 9 over (10 ^ 8) ∷ 16 over 1 ∷ 72 over 1 ∷ []
unfolding ◌over◌ round of_bits
constants_are_nearest = refl

-- (3ε)^(-1/8) lies within half a unit in the last place, 2⁻⁴⁷, of M 2⁻⁴⁶, a number of 53 digits: (M - 1/2)⁸ 3ε < 2³⁶⁸ < (M + 1/2)⁸ 3ε, where ε is 2⁻⁵²
abbrev pub M : ℕ
M = 4 * 1387952566185941

pub eighth_is : [3ε]^-⅛ ≡ fin false 1387952566185941 (negsuc 43)
unfolding of_bits
eighth_is = refl

pub eighth_is_nearest : ((2 * M - 1) ^ 8 * 3 < 2 ^ 428) × (2 ^ 428 < (2 * M + 1) ^ 8 * 3)
eighth_is_nearest = (lit≤ tt, lit≤ tt)

-- (3ε)^(-1/6) lies within half a unit, 2⁻⁴⁵, of (N + 2) 2⁻⁴⁴, where the constant is N 2⁻⁴⁴: two units low
abbrev pub N : ℕ
N = 16 * 372054229997225

pub sixth_is : [3ε]^-⅙ ≡ fin false 372054229997225 (negsuc 39)
unfolding of_bits
sixth_is = refl

pub sixth_is-two-low : ((2 * (N + 2) - 1) ^ 6 * 3 < 2 ^ 322) × (2 ^ 322 < (2 * (N + 2) + 1) ^ 6 * 3)
sixth_is-two-low = (lit≤ tt, lit≤ tt)

-- (ε/4)^(-1/6) is 512, and the constant is three units, of 2⁻⁴⁴, below it
pub sixth_of_quarter-is : [ε/4]^-⅙ ≡ fin false (2 ^ 53 - 3) (negsuc 43)
unfolding of_bits
sixth_of_quarter-is = refl
