-- `polyhedron_tetrahedra::MappedRule::new` meets its contract. Assumes nothing.
use mathlib.Core.Path.{◌≡◌}
use Prim.Native.Nat.{ℕ, ◌<◌}
use lib.Ieee.{nan}
use lib.ListN.{length, get_or}
use Rattle.polyhedron_tetrahedra.specs.Mapped.{points, mapped_node, mapped_weight}
use Rattle.polyhedron_tetrahedra.proofs.rule.MappedRule.new.Given as goal

abbrev pub invariant-loop-i : goal.invariant-loop-i
invariant-loop-i l = record {
  node_count : length l.nodes ≡ points;
  weight_count : length l.weights ≡ points;
  nodes : (k : ℕ) → k < l.i → get_or l.nodes k nan ≡ mapped_node k;
  weights : (k : ℕ) → k < l.i → get_or l.weights k nan ≡ mapped_weight k;
}
