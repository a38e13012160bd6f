-- `prism_cubature::cubature` meets its contract. Assumes nothing.
use mathlib.Core.Path.{◌≡◌, refl}
use mathlib.Core.Logic.{inl, inr, ⊎_elim}
use native.Mathlib.Omega.{arith}
use lib.ListN.{length-append, take}
use Rattle.newtonian.specs.Fold.{fold-none, fold_more}
use Rattle.prism_cubature.specs.Cubature.{cubature}
use Rattle.prism_cubature.proofs.Given.{is_rule, no-node, one-node}
use Rattle.prism_cubature.proofs.cubature.Goals as goal

pub loop-node-init : goal.loop-node-init
loop-node-init c = (record { upto = omega arith; nodes = refl; weights = refl }, rw fold-none c.zero_field-sums.ensures)

pub add_layer-sums-requires : goal.add_layer-sums-requires
add_layer-sums-requires c =
    record { along_y = (is_rule c.args.m c.requires.1 c.of_order-rule_y.ensures).1; along_z = (is_rule c.args.n c.requires.2 c.of_order-rule_z.ensures).1 }

pub loop-node-preserved : goal.loop-node-preserved
loop-node-preserved c =
    let i = c.loop-node.invariant in
    let s = c.in-Some.ensures.steps in
    let r = (is_rule c.args.l c.requires.0 c.of_order-rule_x.ensures).1 in
    let e : c.into_iter-node-iterator.result.a.rest.now ≡ take c.of_order-rule_x.result.count c.of_order-rule_x.result.nodes = rw (c.into_iter-node-iterator.ensures.into_iter_gives, c.zip-node-items.ensures.first) c.iter.ensures.rest in
    let f : c.into_iter-node-iterator.result.b.rest.now ≡ take c.of_order-rule_x.result.count c.of_order-rule_x.result.weights = rw c.into_iter-node-iterator.ensures.into_iter_gives c.zip-node-items.ensures.second.0 in
    let n = one-node r (omega (arith, r.small)) (omega (arith, r.small)) e f (rw (s.0, s.1) at i.0) in
    rw (length-append c.loop-node.yielded) (n.2, rw fold_more (simp (c.add_layer-sums.ensures, c.offset-x.ensures, c.half_widths-h.ensures, n.0, n.1, (is_rule c.args.l c.requires.0 c.of_order-rule_x.ensures).0, i.1)))

pub returns : goal.returns
unfolding cubature
returns c =
    let i = c.loop-node.invariant in
    let r = (is_rule c.args.l c.requires.0 c.of_order-rule_x.ensures).1 in
    let e : c.into_iter-node-iterator.result.a.rest.now ≡ take c.of_order-rule_x.result.count c.of_order-rule_x.result.nodes = rw (c.into_iter-node-iterator.ensures.into_iter_gives, c.zip-node-items.ensures.first) c.iter.ensures.rest in
    let f : c.into_iter-node-iterator.result.b.rest.now ≡ take c.of_order-rule_x.result.count c.of_order-rule_x.result.weights = rw c.into_iter-node-iterator.ensures.into_iter_gives c.zip-node-items.ensures.second.0 in
    let k = no-node r (omega (arith, r.small)) (omega (arith, r.small)) e f i.0 (⊎_elim (λ z. inl z.1.0) (λ z. inr z.1.0) c.in-None.ensures.steps) in
    let x = is_rule c.args.l c.requires.0 c.of_order-rule_x.ensures in
    let y = is_rule c.args.m c.requires.1 c.of_order-rule_y.ensures in
    let z = is_rule c.args.n c.requires.2 c.of_order-rule_z.ensures in
    rw (k, x.0, y.0, z.0) at i.1
