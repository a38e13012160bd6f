-- States: `number-value`: where y is above zero and the loop of R_C(x, y) ends within six rounds, `rc_number` is R_C's value. Assumes nothing.
use mathlib.Core.Path.{◌≡◌}
use lib.Dec.{T}
use lib.Ieee.{Float}
use lib.Ieee.Positive.{positive}
use Rattle.doubles.proofs.Signs.{above_zero}
use Rattle.carlson.specs.Rc.{rc, rc_above, rc_or, rc_value}
use Rattle.special_laws.specs.RoundsTaken.{WithinSix}
use Rattle.lanes_rc.specs.LaneRounds.{rc_number}

pub number-value : (x y : Float) → T (positive y) → WithinSix x y → rc_number x y ≡ rc_value x y
unfolding rc_or rc rc_above rc_number
number-value x y p w = let z = above_zero y p in rw (z.0, z.1, w.ended)
