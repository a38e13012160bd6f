-- `lanes_ln::split` meets its contract. Assumes nothing.
use Prim.Native.Nat.{ℕ, ◌-◌}
use Rattle.lanes.specs.Lanes.{lane}
use Rattle.lanes.proofs.Filling.{Filled}
use Rattle.lanes_ln.specs.LnLanes.{scale_at, fraction_at, square_at}
use Rattle.lanes_ln.proofs.split.Given as goal

abbrev pub invariant-loop-k : goal.invariant-loop-k
invariant-loop-k g l =
    (Filled g.row.N (λ (j : ℕ). scale_at (lane l.x j)) l.initial.s l.k l.s) × (Filled g.row.N (λ (j : ℕ). fraction_at (lane l.x j)) l.initial.t l.k l.t) × (Filled g.row.N (λ (j : ℕ). square_at (lane l.x j)) l.initial.h l.k l.h)

abbrev pub decreases-loop-k : goal.decreases-loop-k
decreases-loop-k g l = g.row.N - l.k
