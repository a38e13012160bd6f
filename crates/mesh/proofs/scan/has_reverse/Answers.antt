-- `mesh::scan::has_reverse` meets its contract: a use has the reverse, or there is a mate, or there is none. Assumes nothing.
use mathlib.Core.Path.{sym, ◌∙◌}
use mathlib.Core.Logic.{⊎_elim}
use native.Mathlib.Omega.{arith}
use borrow.Author.Tests.{eq-eqb, le-leb, lt-leb, lt-ltb, le-ltb}
use lib.ListN.{length}
use Rattle.lists.proofs.Numbers.{below?}
use Rattle.mesh_orders.specs.Edges.{from, to, occurrences}
use Rattle.mesh_orders.specs.MateLaws.{reverse-occurs, mate-occurs, occurs-mate}
use Rattle.mesh.proofs.scan.has_reverse.Goals as goal

pub returns-then-edge-reverse : goal.returns-then-edge-reverse
returns-then-edge-reverse c =
    let f = c.args.ordered.faces.now in
    let e = sym c.edge.ensures ∙ c.if-edge-reverse.true ∙ c.reverse.ensures in
    eq-eqb _ _ c.if-edge-reverse.true ∙ sym (le-leb 1 (occurrences f (to f c.args.u) (from f c.args.u)) (reverse-occurs f c.args.u c.args.ordered.few c.args.w c.requires.1 e))

pub returns-else-edge-reverse : goal.returns-else-edge-reverse
returns-else-edge-reverse c =
    let f = c.args.ordered.faces.now in
    let n = occurrences f (to f c.args.u) (from f c.args.u) in
    let w = c.mate.result in
    ⊎_elim
    (λ l. lt-ltb w (length f) l ∙ sym (le-leb 1 n (mate-occurs f c.args.u c.args.ordered.few (omega (arith, c.mate.ensures)))))
    (λ m. le-ltb w (length f) m ∙ sym (lt-leb 1 n (⊎_elim (λ o. absurd (omega (arith, c.mate.ensures, occurs-mate f c.args.u c.args.ordered.few o))) (λ o. omega arith) (below? 0 n))))
    (below? w (length f))
