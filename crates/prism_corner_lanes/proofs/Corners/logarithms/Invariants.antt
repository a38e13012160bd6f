-- `prism_corner_lanes::Corners::logarithms` meets its contract. Assumes nothing.
use mathlib.Core.Bool.{cond}
use Prim.Native.Nat.{ℕ, ◌-◌}
use lib.Ieee.{neg, le}
use Rattle.lanes.specs.Lanes.{lane}
use Rattle.lanes.proofs.Filling.{Filled}
use Rattle.prism_corner_lanes.proofs.Corners.logarithms.Given as goal

abbrev pub invariant-loop-k : goal.invariant-loop-k
invariant-loop-k l = Filled 24 (λ (j : ℕ). cond (le (lane l.self.top j) (lane l.self.at j)) (neg (lane l.w j)) (lane l.w j)) l.initial.l l.k l.l

abbrev pub decreases-loop-k : goal.decreases-loop-k
decreases-loop-k l = 24 - l.k
