-- `mesh::scan::first_open` meets its contract: the reverse of each edge so far occurs. Assumes nothing.
use mathlib.Core.Path.{◌≡◌, sym, ap, ap₂, subst, ◌∙◌}
use mathlib.Core.List.{List}
use Prim.Native.Nat.{ℕ}
use native.Mathlib.Omega.{arith}
use lib.ListN.{length}
use Rattle.refusals.specs.declared.Refusal.TheVariants.{Open}
use Rattle.std.specs.Prelude.{Err}
use Rattle.refusals.specs.Causes.{unless, first_of}
use Rattle.mesh_orders.specs.Order.{Uses}
use Rattle.mesh_orders.specs.OrderLaws.{order-length, order-uses}
use Rattle.mesh.specs.Check.{reverse_occurs, open_at, open_edge}
use Rattle.mesh.proofs.Scans.{scan_start, scan_more, scan_stop, scan_end}
use Rattle.mesh.proofs.scan.first_open.Goals as goal

pub loop-i-init : goal.loop-i-init
loop-i-init c =
    let f = c.args.ordered.faces.now in
    let o = c.args.ordered.order.now in
    scan_start (length f) (reverse_occurs f o) (open_at f o)

pub has_reverse-requires : goal.has_reverse-requires
has_reverse-requires c =
    let uses : Uses c.args.ordered.faces.now c.args.ordered.order.now = subst (Uses c.args.ordered.faces.now) (sym c.args.ordered.sorted) (order-uses c.args.ordered.faces.now c.args.ordered.few) in
    let size : length c.args.ordered.order.now ≡ length c.args.ordered.faces.now = ap length c.args.ordered.sorted ∙ order-length c.args.ordered.faces.now in
    (uses.below _ (omega arith), c.requires.0.below _ (omega (arith, size, c.requires.1)))

pub start-requires : goal.start-requires
start-requires c =
    let uses : Uses c.args.ordered.faces.now c.args.ordered.order.now = subst (Uses c.args.ordered.faces.now) (sym c.args.ordered.sorted) (order-uses c.args.ordered.faces.now c.args.ordered.few) in
    (c.args.ordered.few.triples, uses.below _ (omega arith))

pub end-requires : goal.end-requires
end-requires c =
    let uses : Uses c.args.ordered.faces.now c.args.ordered.order.now = subst (Uses c.args.ordered.faces.now) (sym c.args.ordered.sorted) (order-uses c.args.ordered.faces.now c.args.ordered.few) in
    (c.args.ordered.few.triples, uses.below _ (omega arith))

pub returns-then-not-has_reverse : goal.returns-then-not-has_reverse
unfolding open_edge
returns-then-not-has_reverse c =
    let size : length c.args.ordered.order.now ≡ length c.args.ordered.faces.now = ap length c.args.ordered.sorted ∙ order-length c.args.ordered.faces.now in
    let f = c.args.ordered.faces.now in
    let o = c.args.ordered.order.now in
    ap₂ (λ (a b : ℕ). Err (Open a b)) c.start.ensures c.end.ensures
    ∙ scan_stop (length f) (reverse_occurs f o) (open_at f o) c.loop-i.i (omega (arith, size)) c.loop-i.invariant
    (sym c.has_reverse.ensures ∙ c.if-not-has_reverse.true)
    ∙ ap (λ (l : List ℕ). first_of (length f) (λ i. unless (reverse_occurs f l i) (open_at f l i))) c.args.ordered.sorted

pub loop-i-preserved : goal.loop-i-preserved
loop-i-preserved c =
    let f = c.args.ordered.faces.now in
    let o = c.args.ordered.order.now in
    scan_more (length f) (reverse_occurs f o) (open_at f o) c.loop-i.i c.loop-i.invariant
    (sym c.has_reverse.ensures ∙ c.if-not-has_reverse.false)

pub returns : goal.returns
unfolding open_edge
returns c =
    let size : length c.args.ordered.order.now ≡ length c.args.ordered.faces.now = ap length c.args.ordered.sorted ∙ order-length c.args.ordered.faces.now in
    let f = c.args.ordered.faces.now in
    let o = c.args.ordered.order.now in
    scan_end (length f) (reverse_occurs f o) (open_at f o) c.loop-i.i (omega (arith, size)) (omega (arith, size)) c.loop-i.invariant
    ∙ ap (λ (l : List ℕ). first_of (length f) (λ i. unless (reverse_occurs f l i) (open_at f l i))) c.args.ordered.sorted

pub bounds-guesses-i : goal.bounds-guesses-i
bounds-guesses-i c =
    let size : length c.args.ordered.order.now ≡ length c.args.ordered.faces.now = ap length c.args.ordered.sorted ∙ order-length c.args.ordered.faces.now in
    omega (arith, size, c.requires.1)
