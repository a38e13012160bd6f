-- `polyhedron_far::Block::add_by_lanes` meets its contract. Assumes nothing.
use mathlib.Core.List.{List}
use Prim.Native.Nat.{ℕ}
use Rattle.newtonian.specs.Vectors.{field_numbers}
use Rattle.polyhedron_neumaier.specs.Neumaier.{add_terms}
use Rattle.polyhedron_neumaier.specs.declared.Pair.{Pair}
use Rattle.polyhedron_far_lanes.specs.EightFields.{field_at}
use Rattle.polyhedron_far.proofs.Stations.{Upto}
use Rattle.polyhedron_far.proofs.Block.add_by_lanes.Given as goal

abbrev pub invariant-loop-k : goal.invariant-loop-k
invariant-loop-k l = Upto l.self.near (λ (j : ℕ) (s : List Pair). add_terms s (field_numbers (field_at l.fields.numbers j))) l.initial.sums l.k l.sums
