-- `mesh::scan::open_edge` meets its contract: the uses by to are uses, so that they may serve as guesses, and they stay in the spare list. Assumes nothing.
use mathlib.Core.Path.{◌≡◌, sym, ap, subst, ◌∙◌}
use mathlib.Core.Bool.{true}
use mathlib.Core.List.{List}
use Prim.Native.Nat.{ℕ}
use lib.ListN.{length}
use Rattle.lists.specs.CountingSort.{Placed}
use Rattle.lists.proofs.Counting.{placed_below}
use Rattle.mesh_orders.specs.Endpoint.{endpoint}
use Rattle.mesh_orders.specs.Order.{Uses}
use Rattle.mesh_orders.specs.EdgeLaws.{small-endpoint}
use native.Mathlib.Omega.{arith}
use Rattle.mesh_orders.specs.OrderLaws.{order-length, order-uses}
use borrow.Author.Rules.{rules}
use Rattle.mesh.proofs.scan.open_edge.Goals as goal

pub pass-requires : goal.pass-requires
pass-requires c =
    let uses : Uses c.args.ordered.faces.now c.args.ordered.order.now = subst (Uses c.args.ordered.faces.now) (sym c.args.ordered.sorted) (order-uses c.args.ordered.faces.now c.args.ordered.few) in
    let size : length c.args.ordered.order.now ≡ length c.args.ordered.faces.now = ap length c.args.ordered.sorted ∙ order-length c.args.ordered.faces.now in
    record {
      keys = record {
        few = omega (arith, size, c.args.ordered.few.few);
        callable = λ i l. let n = uses.below i l in search rules;
        key = endpoint true c.args.ordered.faces.now;
        gives = λ u r p. search rules;
        inside = λ i l. small-endpoint c.args.ordered.faces.now _ c.requires.0 (omega (arith, size)) true _;
      };
      room = c.requires.1 ∙ sym size;
    }

pub first_open-requires : goal.first_open-requires
first_open-requires c =
    let uses : Uses c.args.ordered.faces.now c.args.ordered.order.now = subst (Uses c.args.ordered.faces.now) (sym c.args.ordered.sorted) (order-uses c.args.ordered.faces.now c.args.ordered.few) in
    let size : length c.args.ordered.order.now ≡ length c.args.ordered.faces.now = ap length c.args.ordered.sorted ∙ order-length c.args.ordered.faces.now in
    let f = c.args.ordered.faces.now in
    let p : Placed (endpoint true f) c.args.ordered.order.now c.pass.new.out = c.pass.ensures (endpoint true f) (λ u r q. search rules) in (
      record { faces = c.args.ordered.few; below = placed_below (endpoint true f) c.args.ordered.order.now c.pass.new.out p (length f) uses.below },
      p.size ∙ size,
    )

pub returns-clause-placed : goal.returns-clause-placed
returns-clause-placed c =
    let f = c.args.ordered.faces.now in
    subst (λ (l : List ℕ). Placed (endpoint true f) l c.pass.new.out) c.args.ordered.sorted (c.pass.ensures (endpoint true f) (λ u r q. search rules))
