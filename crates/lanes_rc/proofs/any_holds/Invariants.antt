-- `lanes_rc::any_holds` meets its contract. Assumes nothing.
use mathlib.Core.Path.{◌≡◌}
use mathlib.Core.Bool.{false}
use Prim.Native.Nat.{ℕ, ◌-◌, ◌≤◌, ◌<◌}
use Rattle.carlson.specs.CarlsonLoop.{loop_test}
use Rattle.lanes.specs.Lanes.{lane}
use Rattle.lanes_rc.proofs.any_holds.Given as goal

abbrev pub invariant-loop-k : goal.invariant-loop-k
invariant-loop-k g l = (l.k ≤ g.row.N) × (l.any ≡ false → (j : ℕ) → j < l.k → loop_test (lane l.q j) (lane l.a j) (lane l.f j) ≡ false)

abbrev pub decreases-loop-k : goal.decreases-loop-k
decreases-loop-k g l = g.row.N - l.k
