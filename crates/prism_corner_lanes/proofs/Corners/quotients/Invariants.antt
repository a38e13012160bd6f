-- `prism_corner_lanes::Corners::quotients` meets its contract. Assumes nothing.
use Prim.Native.Nat.{◌-◌}
use Rattle.lanes.proofs.Filling.{Filled}
use Rattle.prism_corner_lanes.specs.CornerLanes.{quotient_at}
use Rattle.prism_corner_lanes.proofs.Corners.quotients.Given as goal

abbrev pub invariant-loop-k : goal.invariant-loop-k
invariant-loop-k l = Filled 24 (quotient_at l.self) l.initial.q l.k l.q

abbrev pub decreases-loop-k : goal.decreases-loop-k
decreases-loop-k l = 24 - l.k
