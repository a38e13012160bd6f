-- States: `constants_are_nearest`: each constant with a decimal value is the double nearest that value. Assumes nothing.
use Rattle.std.specs.Prelude.{◌≡◌, refl, [], ◌∷◌, false, ℕ, ◌^◌, Float}
use Rattle.std.specs.Float.{binary64}
use Rattle.std.specs.Float.Ieee.{round, of_bits}
use Rattle.doubles.specs.Constants.{0·0, 0·25, 0·5, 1·0, 1·5, 2·0, 3·0, 4·0, 5·0, 6·0, 7·0, 8·0, 9·0, 10·0, 24·0, 10⁹, 10⁻⁶, 10⁻⁷, 10⁻¹², 10⁻¹³, 10⁻¹⁴, 10⁻¹⁵, ε}

infix 68 ◌over◌
-- the double nearest n / d
unfoldable pub ◌over◌ : ℕ → ℕ → Float
n over d = round binary64 false n d

pub constants_are_nearest :
    0·0 ∷ 0·25 ∷ 0·5 ∷ 1·0 ∷ 1·5 ∷ 2·0 ∷ 3·0 ∷ 4·0 ∷ 5·0 ∷ 6·0 ∷ 7·0 ∷ 8·0 ∷ 9·0 ∷ 10·0 ∷ 24·0 ∷ 10⁹ ∷ 10⁻⁶ ∷ 10⁻⁷ ∷ 10⁻¹² ∷ 10⁻¹³ ∷ 10⁻¹⁴ ∷ 10⁻¹⁵ ∷ ε ∷ []
    ≡ 0 over 1 ∷ 1 over 4 ∷ 1 over 2 ∷ 1 over 1 ∷ 3 over 2 ∷ 2 over 1 ∷ 3 over 1 ∷ 4 over 1 ∷ 5 over 1 ∷ 6 over 1 ∷ 7 over 1 ∷ 8 over 1 ∷ 9 over 1 ∷ 10 over 1 ∷ 24 over 1 ∷ (10 ^ 9) over 1
    ∷ 1 over (10 ^ 6) ∷ 1 over (10 ^ 7) ∷ 1 over (10 ^ 12) ∷ 1 over (10 ^ 13) ∷ 1 over (10 ^ 14) ∷ 1 over (10 ^ 15) ∷ 1 over (2 ^ 52) ∷ []
unfolding ◌over◌ round of_bits
constants_are_nearest = refl
