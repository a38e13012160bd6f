-- `prism_corner_lanes::distances` meets its contract. Assumes nothing.
use Prim.Native.Nat.{ℕ, ◌-◌}
use Rattle.doubles.specs.Rounded.{◌⊕◌, ◌⊗◌}
use Rattle.lanes.specs.Lanes.{lane}
use Rattle.lanes.proofs.Filling.{Filled}
use Rattle.prism_corner_lanes.proofs.distances.Given as goal

abbrev pub invariant-loop-k : goal.invariant-loop-k
invariant-loop-k l = Filled 8 (λ (j : ℕ). lane l.x j ⊗ lane l.x j ⊕ lane l.y j ⊗ lane l.y j ⊕ lane l.z j ⊗ lane l.z j) l.initial.q l.k l.q

abbrev pub decreases-loop-k : goal.decreases-loop-k
decreases-loop-k l = 8 - l.k
