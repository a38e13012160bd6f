-- `lanes_atan2::atan2` meets its contract. Assumes nothing.
use Prim.Native.Nat.{ℕ}
use Rattle.doubles.specs.Rounded.{◌⊗◌}
use Rattle.lanes.specs.Lanes.{lane}
use Rattle.lanes.proofs.Filling.{Filled}
use Rattle.lanes_atan2.specs.AtanLanes.{atan_from, atan2_from}
use Rattle.lanes_atan2.proofs.atan2.Given as goal

abbrev pub invariant-loop-k : goal.invariant-loop-k
invariant-loop-k g l = Filled g.row.N (λ (j : ℕ). atan2_from (lane l.s j) (lane l.c j) (atan_from (lane l.z j) (lane l.w j ⊗ lane l.r j))) l.initial.ak-items l.k l.ak-items
