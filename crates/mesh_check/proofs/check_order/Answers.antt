-- `mesh_check::check_order` meets its contract: the causes 5 to 8 in order. Assumes nothing.
use mathlib.Core.Path.{sym, ◌∙◌}
use Rattle.std.proofs.lemmas.Result.{err_from_is_err_and}
use Rattle.mesh_orders.specs.Order.{order_list}
use Rattle.mesh.specs.Check.{order_cause}
use Rattle.mesh_check.proofs.Partners.{holds-mates}
use Rattle.mesh_check.proofs.EdgeReturns.{refused_none, no_edge-cause}
use Rattle.mesh_check.proofs.check_order.Goals as goal

pub returns-in_err-flipped_edge : goal.returns-in_err-flipped_edge
unfolding order_cause
returns-in_err-flipped_edge c =
    let e = sym c.flipped_edge.ensures ∙ c.in_err-flipped_edge.was in
    let p = err_from_is_err_and c.from_residual.result c.from_residual.ensures.1 in
    record { value = rw (p.1, p.2) (simp e); holds_mates = λ n. absurd (refused_none _ _ e (no_edge-cause c.args.mesh.verts.now c.args.mesh.faces.now (order_list c.args.mesh.faces.now) n).0) }

pub returns-in_err-open_edge : goal.returns-in_err-open_edge
unfolding order_cause
returns-in_err-open_edge c =
    let d = sym c.flipped_edge.ensures ∙ c.in_ok-flipped_edge.was in
    let e = sym c.open_edge.ensures.value ∙ c.in_err-open_edge.was in
    let p = err_from_is_err_and c.from_residual-in_err-open_edge.result c.from_residual-in_err-open_edge.ensures.1 in
    record { value = rw (p.1, p.2) (simp (d, e)); holds_mates = λ n. absurd (refused_none _ _ e (no_edge-cause c.args.mesh.verts.now c.args.mesh.faces.now (order_list c.args.mesh.faces.now) n).1) }

pub returns : goal.returns
unfolding order_cause
returns c =
    let v = c.args.mesh.verts.now in
    let f = c.args.mesh.faces.now in
    let d = sym c.flipped_edge.ensures ∙ c.in_ok-flipped_edge.was in
    let e = sym c.open_edge.ensures.value ∙ c.in_ok-open_edge.was in
    record {
      value = simp (d, e) c.check_faces.ensures;
      holds_mates = λ n. let no = no_edge-cause v f (order_list f) n in holds-mates f _ c.args.mesh.body.faces no.0 no.1 c.open_edge.ensures.placed;
    }
