-- `polyhedron_sight::angles_8` meets its contract. Assumes nothing.
use Prim.Native.Nat.{ℕ}
use Rattle.doubles.specs.Rounded.{◌⊗◌}
use Rattle.doubles.specs.Constants.{2·0}
use Rattle.lanes.specs.Lanes.{lane}
use Rattle.lanes.proofs.Filling.{Filled}
use Rattle.polyhedron_sight.proofs.angles_8.Given as goal

abbrev pub invariant-loop-ak : goal.invariant-loop-ak
invariant-loop-ak l = Filled 8 (λ (j : ℕ). 2·0 ⊗ lane l.initial.ak-items j) l.initial.ak-items l.ak-index l.ak-items
