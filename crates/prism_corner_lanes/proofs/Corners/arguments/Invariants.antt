-- `prism_corner_lanes::Corners::arguments` meets its contract. Assumes nothing.
use Prim.Native.Nat.{◌-◌}
use Rattle.lanes.proofs.Filling.{Filled}
use Rattle.prism_corner_lanes.specs.CornerLanes.{argument_at}
use Rattle.prism_corner_lanes.proofs.Corners.arguments.Given as goal

abbrev pub invariant-loop-k : goal.invariant-loop-k
invariant-loop-k l = Filled 24 (argument_at l.self) l.initial.v l.k l.v

abbrev pub decreases-loop-k : goal.decreases-loop-k
decreases-loop-k l = 24 - l.k
