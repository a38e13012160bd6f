-- States: `atan-lane`: atan by lanes is `atan`, of a NaN too; `atan_parts`: its last step. Assumes nothing.
use mathlib.Core.Path.{◌≡◌, refl, ◌∙◌}
use lib.Ieee.{Float, nan, inf, fin, of_bits, neg, sub, mul, div, lt, le, is_nan}
use Rattle.doubles.specs.Rounded.{◌⊕◌, ◌⊗◌}
use Rattle.doubles.specs.Constants.{1·0}
use Rattle.doubles.specs.Magnitude.{abs}
use Rattle.carlson.specs.Rc.{rc_value}
use Rattle.carlson.specs.Arctangent.{atan_by, atan}
use Rattle.lanes_rc.specs.LaneRounds.{rc_number}
use Rattle.lanes_atan2.specs.AtanLanes.{reduced, angle, atan_from}
use Rattle.lanes_atan2.proofs.AtanLaw.{atan-is}

of_nan : atan_from nan (angle (reduced nan)) ≡ atan_by rc_value nan
unfolding atan_from atan_by reduced is_nan abs le lt div mul sub neg of_bits
of_nan = refl

pub atan-lane : (z : Float) → atan_from z (angle (reduced z)) ≡ atan z
unfolding atan is_nan
atan-lane nan = of_nan
atan-lane (inf s) = atan-is (inf s) refl
atan-lane (fin s m e) = atan-is (fin s m e) refl

pub atan_parts : {w r o y v : Float} (z : Float) → w ≡ reduced z → o ≡ 1·0 → y ≡ 1·0 ⊕ reduced z ⊗ reduced z → r ≡ rc_number o y → v ≡ atan_from z (w ⊗ r) → v ≡ atan z
atan_parts {w} {r} z ew eo ey er ev = let e : atan_from z (w ⊗ r) ≡ atan_from z (angle (reduced z)) = rw (er, eo, ey, ew) in ev ∙ e ∙ atan-lane z
