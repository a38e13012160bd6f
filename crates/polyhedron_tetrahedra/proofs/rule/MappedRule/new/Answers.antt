-- `polyhedron_tetrahedra::MappedRule::new` meets its contract. Assumes nothing.
use mathlib.Core.Path.{◌∙◌}
use Prim.Native.Nat.{◌<◌}
use native.Mathlib.Omega.{arith}
use lib.ListN.{length-set}
use Rattle.polyhedron_tetrahedra.specs.Mapped.{points, mapped_node, mapped_weight}
use Rattle.polyhedron_tetrahedra.proofs.Nodes.{map-node, map-weight, all_nodes, all_weights, one_more}
use Rattle.polyhedron_tetrahedra.proofs.rule.MappedRule.new.Goals as goal

pub loop-i-preserved : goal.loop-i-preserved
loop-i-preserved c =
    let l = c.loop-i in
    let h : l.i < points = c.loop-i-test.true in
    let e = c.of_order-rule.ensures in
    record {
      node_count = length-set _ _ _ ∙ l.invariant.node_count;
      weight_count = length-set _ _ _ ∙ l.invariant.weight_count;
      nodes = one_more mapped_node _ _ (simp e (map-node l.i h)) (omega (arith, h, l.invariant.node_count)) l.invariant.nodes;
      weights = one_more mapped_weight _ _ (simp e (map-weight l.i h)) (omega (arith, h, l.invariant.weight_count)) l.invariant.weights;
    }

pub invariant_of-result-clause-nodes_mapped : goal.invariant_of-result-clause-nodes_mapped
invariant_of-result-clause-nodes_mapped c = all_nodes c.loop-i.invariant.node_count (λ k l. c.loop-i.invariant.nodes k (omega (arith, l, c.loop-i-test.false)))

pub invariant_of-result-clause-weights_mapped : goal.invariant_of-result-clause-weights_mapped
invariant_of-result-clause-weights_mapped c = all_weights c.loop-i.invariant.weight_count (λ k l. c.loop-i.invariant.weights k (omega (arith, l, c.loop-i-test.false)))
