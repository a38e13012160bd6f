-- `polyhedron_far::Block::add_one_by_one` meets its contract. Assumes nothing.
use mathlib.Core.List.{List}
use Prim.Native.Nat.{ℕ}
use Rattle.newtonian.specs.Vectors.{field_numbers}
use Rattle.polyhedron_neumaier.specs.Neumaier.{add_terms}
use Rattle.polyhedron_neumaier.specs.declared.Pair.{Pair}
use Rattle.polyhedron_far_points.specs.PointsOf.{field_of}
use Rattle.polyhedron_far_lanes.specs.EightFields.{place_at}
use Rattle.polyhedron_far.proofs.Stations.{Upto}
use Rattle.polyhedron_far.proofs.Block.add_one_by_one.Given as goal

abbrev pub invariant-loop-i : goal.invariant-loop-i
invariant-loop-i l = Upto l.self.near (λ (j : ℕ) (s : List Pair). add_terms s (field_numbers (field_of (place_at l.self.places j) l.points))) l.initial.sums l.i l.sums
