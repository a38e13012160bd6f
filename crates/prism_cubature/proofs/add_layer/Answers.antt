-- `prism_cubature::add_layer` meets its contract. Assumes nothing.
use mathlib.Core.Path.{◌≡◌, refl}
use mathlib.Core.Logic.{inl, inr, ⊎_elim}
use native.Mathlib.Omega.{arith}
use lib.ListN.{length-append, take}
use Rattle.newtonian.specs.Fold.{fold-none, fold_more}
use Rattle.prism_cubature.proofs.Given.{no-node, one-node}
use Rattle.prism_cubature.proofs.add_layer.Goals as goal

pub loop-node-init : goal.loop-node-init
loop-node-init c = (record { upto = omega arith; nodes = refl; weights = refl }, rw fold-none)

pub loop-node-preserved : goal.loop-node-preserved
loop-node-preserved c =
    let i = c.loop-node.invariant in
    let s = c.in-Some.ensures.steps in
    let r = c.requires.along_y in
    let e : c.into_iter-node-iterator.result.a.rest.now ≡ take c.args.rule_y.now.count c.args.rule_y.now.nodes = rw (c.into_iter-node-iterator.ensures.into_iter_gives, c.zip-node-items.ensures.first) c.iter.ensures.rest in
    let f : c.into_iter-node-iterator.result.b.rest.now ≡ take c.args.rule_y.now.count c.args.rule_y.now.weights = rw c.into_iter-node-iterator.ensures.into_iter_gives c.zip-node-items.ensures.second.0 in
    let n = one-node r (omega (arith, r.small)) (omega (arith, r.small)) e f (rw (s.0, s.1) at i.0) in
    rw (length-append c.loop-node.yielded) (n.2, rw fold_more (simp (c.add_line-sums.ensures, c.offset-y.ensures, c.half_widths-h.ensures, n.0, n.1, i.1)))

pub returns : goal.returns
returns c =
    let i = c.loop-node.invariant in
    let r = c.requires.along_y in
    let e : c.into_iter-node-iterator.result.a.rest.now ≡ take c.args.rule_y.now.count c.args.rule_y.now.nodes = rw (c.into_iter-node-iterator.ensures.into_iter_gives, c.zip-node-items.ensures.first) c.iter.ensures.rest in
    let f : c.into_iter-node-iterator.result.b.rest.now ≡ take c.args.rule_y.now.count c.args.rule_y.now.weights = rw c.into_iter-node-iterator.ensures.into_iter_gives c.zip-node-items.ensures.second.0 in
    let k = no-node r (omega (arith, r.small)) (omega (arith, r.small)) e f i.0 (⊎_elim (λ z. inl z.1.0) (λ z. inr z.1.0) c.in-None.ensures.steps) in
    rw k at i.1
