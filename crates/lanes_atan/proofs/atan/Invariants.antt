-- `lanes_atan::atan` meets its contract. Assumes nothing.
use Prim.Native.Nat.{ℕ, ◌-◌}
use Rattle.doubles.specs.Rounded.{◌⊗◌}
use Rattle.lanes.specs.Lanes.{lane}
use Rattle.lanes.proofs.Filling.{Filled}
use Rattle.lanes_atan2.specs.AtanLanes.{atan_from}
use Rattle.lanes_atan.proofs.atan.Given as goal

abbrev pub invariant-loop-k : goal.invariant-loop-k
invariant-loop-k g l = Filled g.row.N (λ (j : ℕ). atan_from (lane l.z j) (lane l.w j ⊗ lane l.r j)) l.initial.out l.k l.out

abbrev pub decreases-loop-k : goal.decreases-loop-k
decreases-loop-k g l = g.row.N - l.k
