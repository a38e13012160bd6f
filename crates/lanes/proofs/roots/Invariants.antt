-- `lanes::roots` meets its contract. Assumes nothing.
use Rattle.std.proofs.Common.{ℕ}
use Rattle.roots.specs.Root.{Root}
use Rattle.lanes.specs.Lanes.{lane}
use Rattle.lanes.proofs.Filling.{Filled}
use Rattle.lanes.proofs.roots.Given as goal

abbrev pub invariant-loop-k : goal.invariant-loop-k
invariant-loop-k g l = Filled g.row.N (λ (j : ℕ). Root (lane l.x j)) l.initial.wk-items l.k l.wk-items
