-- `lanes_atan2::reduce` meets its contract. Assumes nothing.
use Prim.Native.Nat.{ℕ}
use Rattle.lanes.specs.Lanes.{lane}
use Rattle.lanes_atan2.specs.AtanLanes.{reduced}
use Rattle.lanes.proofs.Filling.{Filled}
use Rattle.lanes_atan2.proofs.reduce.Given as goal

abbrev pub invariant-loop-k : goal.invariant-loop-k
invariant-loop-k g l = Filled g.row.N (λ (j : ℕ). reduced (lane l.z j)) l.initial.w l.k l.w
