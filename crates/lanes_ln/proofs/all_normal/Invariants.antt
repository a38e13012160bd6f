-- `lanes_ln::all_normal` meets its contract. Assumes nothing.
use mathlib.Core.Path.{◌≡◌}
use mathlib.Core.Bool.{true}
use Prim.Native.Nat.{ℕ, ◌<◌}
use Rattle.lanes.specs.Lanes.{lane}
use Rattle.lanes_ln.specs.LnLanes.{Normal}
use Rattle.lanes_ln.proofs.all_normal.Given as goal

abbrev pub invariant-loop-xk : goal.invariant-loop-xk
invariant-loop-xk g l = l.normal ≡ true → (j : ℕ) → j < l.xk-index → Normal (lane l.x j)
