-- atan2 of numbers that are not zero and whose quotient is a number, with no branch. Definitions only; the proofs show that this is `atan2`.
use Rattle.std.specs.Prelude.{◌≡◌, true, cond, Float}
use Rattle.std.specs.Float.Ieee.{neg, lt, le, eq, ne}
use Rattle.doubles.specs.Rounded.{◌⊕◌, ◌⊖◌, ◌⊗◌, ◌⊘◌}
use Rattle.doubles.specs.Constants.{0·0, 1·0, π, π/2}
use Rattle.doubles.specs.Magnitude.{abs}
use Rattle.lanes_rc.specs.LaneRounds.{rc_number}

-- s and c are not zero, and s/c is a number
pub record Proper (s c : Float) : Type 0 where
  pub s_is : ne s 0·0 ≡ true
  pub c_is : ne c 0·0 ≡ true
  pub z_is : eq (s ⊘ c) (s ⊘ c) ≡ true

-- w with the sign of z, where z is not zero
abbrev pub signed : Float → Float → Float
signed z w = cond (lt z 0·0) (neg w) w

-- z, or 1/z where |z| is beyond 1
unfoldable pub reduced : Float → Float
reduced z = cond (le (abs z) 1·0) z (1·0 ⊘ z)

-- w R_C(1, 1 + w²)
abbrev pub angle : Float → Float
angle w = w ⊗ rc_number 1·0 (1·0 ⊕ w ⊗ w)

-- atan z from the angle of the reduced z
unfoldable pub atan_from : Float → Float → Float
atan_from z v = cond (le (abs z) 1·0) v (signed z π/2 ⊖ v)

-- atan2 from atan(s/c)
unfoldable pub atan2_from : Float → Float → Float → Float
atan2_from s c a = cond (lt c 0·0) (a ⊕ signed s π) a

abbrev pub atan2_lane : Float → Float → Float
atan2_lane s c = atan2_from s c (atan_from (s ⊘ c) (angle (reduced (s ⊘ c))))
