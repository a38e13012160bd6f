-- `lanes_rc::endings` meets its contract. Assumes nothing.
use Prim.Native.Nat.{ℕ, ◌-◌}
use Rattle.lanes.specs.Lanes.{lane}
use Rattle.lanes.proofs.Filling.{Filled}
use Rattle.lanes_rc.specs.LaneRounds.{ending}
use Rattle.lanes_rc.proofs.endings.Given as goal

abbrev pub invariant-loop-k : goal.invariant-loop-k
invariant-loop-k g l = Filled g.row.N (λ (j : ℕ). ending (lane l.y j) (lane l.m j) (lane l.f j) (lane l.a j)) l.initial.out l.k l.out

abbrev pub decreases-loop-k : goal.decreases-loop-k
decreases-loop-k g l = g.row.N - l.k
