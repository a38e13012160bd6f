-- The magnitude and the sign of a double, the larger and the smaller of two, and the test of refusal 3. Definitions only.
use Rattle.std.specs.Prelude.{Bool, true, false, ◌&&◌, ◌||◌, cond}
use lib.Ieee.{Float, nan, inf, fin, lt, le, is_nan}
use Rattle.std.specs.Float.Ieee.Scale.{finite}
use Rattle.doubles.specs.Constants.{10⁹}

-- |x|: the sign cleared
unfoldable pub abs : Float → Float
abs nan = nan
abs (inf s) = inf false
abs (fin s m e) = fin false m e

-- the sign bit, of a zero too; a NaN has none
unfoldable pub negative : Float → Bool
negative nan = false
negative (inf s) = s
negative (fin s m e) = s

-- finite, and its sign bit is clear: +0 is in, -0 is not. Beside it stand lib.Ieee.Positive's `positive`, finite and above zero, and in `special_laws` `unsigned`,
-- which has NaN and +∞ too, and `not_below_zero`, which has -0 too.
abbrev pub finite_unsigned : Float → Bool
finite_unsigned nan = false
finite_unsigned (inf s) = false
finite_unsigned (fin true m e) = false
finite_unsigned (fin false m e) = true

-- the larger of x and y, which passes over a NaN; x where they are equal, as +0 and -0 are
unfoldable pub max : Float → Float → Float
max x y = cond (is_nan x || lt x y) y x

-- the smaller, likewise
unfoldable pub min : Float → Float → Float
min x y = cond (is_nan x || lt y x) y x

-- what refusal 3 asks of each number that is given: it is finite, and its magnitude is at most 10⁹
unfoldable pub within_limits : Float → Bool
within_limits x = finite x && le (abs x) 10⁹
