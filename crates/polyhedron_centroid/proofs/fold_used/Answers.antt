-- `polyhedron_centroid::fold_used` meets its contract. Assumes nothing.
use mathlib.Core.Path.{◌≡◌, ap, ◌∙◌}
use Prim.Native.Nat.{ℕ, ◌+◌}
use native.Mathlib.Omega.{arith}
use lib.ListN.{length}
use Rattle.mesh_orders.specs.OrderLaws.{order-length}
use Rattle.polyhedron_centroid.proofs.Passes.{met, placed, met-below, begin, skipped, taken, finish}
use Rattle.polyhedron_centroid.proofs.fold_used.Goals.{else-next-x, then-next-x}
use Rattle.polyhedron_centroid.proofs.fold_used.Goals as goal

pub loop-u-init : goal.loop-u-init
loop-u-init g c = record { passed = λ s h. begin c.args.ordered.faces.now s c.args.first; below = λ v b. omega arith; few = λ m z h. omega (arith, z) }

pub start-x-requires : goal.start-x-requires
start-x-requires g c =
    let q = placed c.args.ordered.faces.now c.args.ordered.order.now c.args.ordered.sorted c.loop-u.u-index (omega arith) in
    (c.args.ordered.few.triples, q.1)

pub step-taken-requires : goal.step-taken-requires
step-taken-requires g c =
    let h = c.requires in
    let f = c.args.ordered.faces.now in
    let i = c.loop-u.u-index in
    let q = placed f c.args.ordered.order.now c.args.ordered.sorted i (omega arith) in
    h.callable _ _ (omega (arith, c.start-x.ensures, q.2, met-below f h.bound h.inside i q.0)) (omega (arith, c.loop-u.invariant.few h.steps h.begins h.grows, q.0, c.args.ordered.few.few))

pub loop-u-preserved : goal.loop-u-preserved
loop-u-preserved g c =
    let f = c.args.ordered.faces.now in
    let ok = c.args.ordered.few in
    let l = c.loop-u in
    let q = placed f c.args.ordered.order.now c.args.ordered.sorted l.u-index (omega arith) in
    let x : c.start-x.result ≡ met f l.u-index = c.start-x.ensures ∙ q.2 in
    elim c.if-next-x.branch [
      | then-next-x w ↦ let n : c.if-next-x.next ≡ met f l.u-index + 1 = w.next-is ∙ ap (λ (y : ℕ). y + 1) x in
          record {
            passed = λ s h. let e : c.if-next-x.taken ≡ s (met f l.u-index) l.taken = w.taken-is ∙ h _ _ _ w.step-taken.ensures ∙ ap (λ (y : ℕ). s y l.taken) x in
                rw (e, n) (taken f ok s c.args.first l.u-index l.next l.taken (l.invariant.passed s h) q.0 (omega (arith, x, w.if-next-x.true)));
            below = λ v b. omega (arith, n, met-below f v b l.u-index q.0);
            few = λ m z h. omega (arith, ap m w.taken-is, h _ _ _ w.step-taken.ensures, l.invariant.few m z h);
          }
      | else-next-x w ↦ record {
        passed = λ s h. rw (w.taken-is, w.next-is) (skipped f ok s c.args.first l.u-index l.next l.taken (l.invariant.passed s h) (omega (arith, x, w.if-next-x.false)));
        below = λ v b. omega (arith, w.next-is, l.invariant.below v b);
        few = λ m z h. omega (arith, ap m w.taken-is, l.invariant.few m z h);
      }
    ]

pub returns : goal.returns
returns g c =
    let f = c.args.ordered.faces.now in
    let l = c.loop-u in
    λ s v h b. finish f c.args.ordered.few s c.args.first l.u-index l.next l.taken (l.invariant.passed s h) v (omega (arith, c.loop-u-test.false, ap length c.args.ordered.sorted, order-length f)) (l.invariant.below v b)
