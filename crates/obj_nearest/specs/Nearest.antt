-- What it is for r to be the double nearest ± n / m: strictly nearer than every finite double that is another number, so that there is never a tie. +0 and −0 are one number; an infinity is
-- infinitely far. Definitions only.
use Rattle.std.specs.Prelude.{◌≡◌, Bool, false, cond, List, ℕ, ◌+◌, ◌-◌, ◌*◌, ◌^◌, ◌<◌, T, Float}
use Rattle.std.specs.Bool.{beq}
use Rattle.std.specs.Float.{binary64}
use Rattle.std.specs.Float.Ieee.{fits, eq}
use Rattle.std.specs.Float.Ieee.Positive.{num, den}
use Rattle.std.specs.Float.Ieee.Scale.{finite}
use Rattle.doubles.specs.Magnitude.{negative}
use Rattle.obj.specs.Decimal.{has_minus, digits_of, whole_of, places, value_of}

-- |a − b|
abbrev pub apart : ℕ → ℕ → ℕ
apart a b = (a - b) + (b - a)

-- The distance of a finite double x from n / m, or from − n / m where s is true, times m · den x: the magnitude of x is num x / den x, and where the signs differ the magnitudes add.
unfoldable pub distance : Bool → ℕ → ℕ → Float → ℕ
distance s n m x = cond (beq (negative x) s) (apart (num x * m) (n * den x)) (num x * m + n * den x)

pub record Nearest (s : Bool) (n m : ℕ) (r : Float) : Type 0 where
  -- r is a double, finite, with the sign of the number; so a zero after a minus is −0
  pub double : T (fits binary64 r)
  pub is_finite : T (finite r)
  pub sign : negative r ≡ s
  -- nearer than every other; both sides times m · den r · den y
  pub nearer : (y : Float) → T (fits binary64 y) → T (finite y) → eq r y ≡ false → distance s n m r * den y < distance s n m y * den r

-- the value of the number f is the double nearest what f says
abbrev pub NearestValue : List ℕ → Type 0
NearestValue f = Nearest (has_minus f) (whole_of (digits_of f)) (10 ^ places f) (value_of f)
