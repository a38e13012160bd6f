-- What it is for r to be the double nearest √x: strictly nearer than every finite double that is not negative and is another number, so that there is never a tie.
-- It says nothing of the rest, none of which is nearer: a negative double is farther than +0 is, an infinity is infinitely far, and -0 is the number +0, so that
-- where x is +0, -0 is as near as r, which is +0. `RootIsNearest` shows it of the root. Definitions only.
use Rattle.std.specs.Prelude.{ℕ, ◌+◌, ◌*◌, ◌<◌, T, Float}
use Rattle.std.specs.Float.{binary64}
use Rattle.std.specs.Float.Ieee.{fits, lt}
use Rattle.std.specs.Float.Ieee.Positive.{num, den}
use Rattle.doubles.specs.Magnitude.{finite_unsigned}

-- The number halfway between r and y is (r + y) / 2, so √x lies below it exactly where 4 x is below (r + y)².
-- With each number as the fraction `num` / `den`, both times the denominators:
unfoldable pub four_times : Float → Float → Float → ℕ
four_times x r y = 4 * num x * (den r * den y * (den r * den y))

unfoldable pub sum_squared : Float → Float → Float → ℕ
sum_squared x r y = let s = num r * den y + num y * den r in s * s * den x

pub record NearestRoot (x r : Float) : Type 0 where
  -- r is a double, finite and from +0 up
  pub double : T (fits binary64 r)
  pub from_zero : T (finite_unsigned r)
  -- √x is below halfway to every such double y above r, and above halfway to every such double y below r
  pub nearer_than_above : (y : Float) → T (fits binary64 y) → T (finite_unsigned y) → T (lt r y) → four_times x r y < sum_squared x r y
  pub nearer_than_below : (y : Float) → T (fits binary64 y) → T (finite_unsigned y) → T (lt y r) → sum_squared x r y < four_times x r y
