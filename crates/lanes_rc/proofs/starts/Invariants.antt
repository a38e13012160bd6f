-- `lanes_rc::starts` meets its contract. Assumes nothing.
use Prim.Native.Nat.{ℕ, ◌-◌}
use Rattle.carlson.specs.Rc.{A₀C, QC}
use Rattle.lanes.specs.Lanes.{lane}
use Rattle.lanes.proofs.Filling.{Filled}
use Rattle.lanes_rc.proofs.starts.Given as goal

abbrev pub invariant-loop-k : goal.invariant-loop-k
invariant-loop-k g l = (Filled g.row.N (λ (j : ℕ). A₀C (lane l.x j) (lane l.y j)) l.initial.m l.k l.m) × (Filled g.row.N (λ (j : ℕ). QC (lane l.x j) (lane l.y j)) l.initial.q l.k l.q)

abbrev pub decreases-loop-k : goal.decreases-loop-k
decreases-loop-k g l = g.row.N - l.k
