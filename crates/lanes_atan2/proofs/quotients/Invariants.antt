-- `lanes_atan2::quotients` meets its contract. Assumes nothing.
use mathlib.Core.Path.{◌≡◌}
use mathlib.Core.Bool.{true}
use Prim.Native.Nat.{ℕ, ◌<◌}
use Rattle.doubles.specs.Rounded.{◌⊘◌}
use Rattle.lanes.specs.Lanes.{lane}
use Rattle.lanes.proofs.Filling.{Filled}
use Rattle.lanes_atan2.specs.AtanLanes.{Proper}
use Rattle.lanes_atan2.proofs.quotients.Given as goal

abbrev pub invariant-loop-k : goal.invariant-loop-k
invariant-loop-k g l = (Filled g.row.N (λ (j : ℕ). lane l.s j ⊘ lane l.c j) l.initial.zk-items l.k l.zk-items) × (l.good ≡ true → (j : ℕ) → j < l.k → Proper (lane l.s j) (lane l.c j))
