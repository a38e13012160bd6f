-- `lanes_atan2::all_within` meets its contract. Assumes nothing.
use mathlib.Core.Path.{◌≡◌}
use mathlib.Core.Bool.{true}
use Prim.Native.Nat.{ℕ, ◌<◌}
use lib.Ieee.{le}
use Rattle.doubles.specs.Constants.{1·0}
use Rattle.doubles.specs.Magnitude.{abs}
use Rattle.lanes.specs.Lanes.{lane}
use Rattle.lanes_atan2.proofs.all_within.Given as goal

abbrev pub invariant-loop-zk : goal.invariant-loop-zk
invariant-loop-zk g l = l.within ≡ true → (j : ℕ) → j < l.zk-index → le (abs (lane l.z j)) 1·0 ≡ true
