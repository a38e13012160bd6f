-- `prism_corner_lanes::Corners::angles` meets its contract. Assumes nothing.
use mathlib.Core.Bool.{cond}
use Prim.Native.Nat.{ℕ, ◌-◌}
use lib.Ieee.{eq}
use Rattle.doubles.specs.Rounded.{◌⊗◌}
use Rattle.doubles.specs.Constants.{0·0}
use Rattle.lanes.specs.Lanes.{lane}
use Rattle.lanes.proofs.Filling.{Filled}
use Rattle.prism_corner_lanes.proofs.Corners.angles.Given as goal

abbrev pub invariant-loop-k : goal.invariant-loop-k
invariant-loop-k l = Filled 24 (λ (j : ℕ). cond (eq (lane l.self.y j ⊗ lane l.self.z j) 0·0) 0·0 (lane l.t j)) l.initial.a l.k l.a

abbrev pub decreases-loop-k : goal.decreases-loop-k
decreases-loop-k l = 24 - l.k
