-- `lanes_atan2::one_and_square` meets its contract. Assumes nothing.
use Prim.Native.Nat.{ℕ}
use Rattle.doubles.specs.Rounded.{◌⊕◌, ◌⊗◌}
use Rattle.doubles.specs.Constants.{1·0}
use Rattle.lanes.specs.Lanes.{lane}
use Rattle.lanes.proofs.Filling.{Filled}
use Rattle.lanes_atan2.proofs.one_and_square.Given as goal

abbrev pub invariant-loop-k : goal.invariant-loop-k
invariant-loop-k g l = Filled g.row.N (λ (j : ℕ). 1·0 ⊕ lane l.w j ⊗ lane l.w j) l.initial.y l.k l.y
