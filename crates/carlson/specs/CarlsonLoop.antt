-- What Carlson's duplication algorithms share (B. C. Carlson, "Numerical computation of real or complex elliptic integrals", Numer. Algorithms 10, 13-26 (1995),
-- section 2), with the roundings of the Rust: x, y, .. and A become a quarter of their sums with λ, and 4⁻ⁿ a quarter of itself. The definitions of each integral
-- end in its letter: C, F, D or J. Definitions only.
use Rattle.std.specs.Prelude.{Bool, ℕ, Float}
use Rattle.std.specs.Float.Ieee.{le}
use Rattle.doubles.specs.Rounded.{◌⊗◌, ◌⊘◌}
use Rattle.doubles.specs.Constants.{4·0}
use Rattle.doubles.specs.Magnitude.{abs}

-- document 01: a loop whose test still holds after this many rounds is refused by 15
abbrev pub max_rounds : ℕ
max_rounds = 64

unfoldable pub quarter : Float → Float
quarter w = w ⊘ 4·0

-- the loop's test, 4⁻ⁿ Q ≥ |Aₙ|; f is 4⁻ⁿ
unfoldable pub loop_test : Float → Float → Float → Bool
loop_test Q A f = le (abs A) (f ⊗ Q)
