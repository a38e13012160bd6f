-- `mesh_check::check_surface_with_mates` meets its contract: cause 4, then the order list and the causes 5 to 8. Assumes nothing.
use mathlib.Core.Path.{◌≡◌, sym, ap, ◌∙◌}
use mathlib.Core.List.{List, ◌++◌}
use Prim.Native.Nat.{ℕ}
use lib.ListN.{length, drop}
use Rattle.std.specs.Prelude.{Ok, Err}
use Rattle.refusals.specs.Causes.{Cause}
use Rattle.refusals.specs.Causes.{or_else}
use Rattle.mesh_orders.specs.Order.{order_list}
use Rattle.mesh.specs.Surface.{volume, vertex_count}
use Rattle.mesh.specs.Check.{no_such_vertex, order_cause, surface_cause, solid_of, work_after}
use Rattle.mesh.specs.CauseLaws.{is_body, none-vertex}
use Rattle.mesh_check.specs.CheckedMates.{mates_after}
use Rattle.std.proofs.lemmas.Result.{err_from_is_err_and}
use Rattle.mesh_check.proofs.Work.{early_vertex, work_early, work-order}
use Rattle.mesh_check.proofs.check_surface_with_mates.Goals as goal

pub returns-in_err-no_such_vertex : goal.returns-in_err-no_such_vertex
unfolding surface_cause mates_after
returns-in_err-no_such_vertex c =
    let v = c.args.verts.now in
    let f = c.args.faces.now in
    let w = c.args.work.now in
    let r = c.in_err-no_such_vertex.field-0.0 in
    let e : no_such_vertex (vertex_count v) f ≡ Err r = sym c.no_such_vertex.ensures ∙ c.in_err-no_such_vertex.was in
    let s : surface_cause v f ≡ Err r = ap (λ (d : Cause). or_else d (order_cause v f (order_list f))) e in
    let p = err_from_is_err_and c.from_residual.result c.from_residual.ensures.1 in
    record {
      value = rw (p.1, p.2) (sym (ap (λ (d : Cause). solid_of d (volume v f)) s));
      work_after = sym (ap (λ (d : Cause). work_after d f w) s ∙ work_early f w r (early_vertex v f r e));
      mates_after = sym (ap (λ (d : Cause). mates_after d f c.args.mates.now) s);
    }

pub invariant_of-by_size : goal.invariant_of-by_size
invariant_of-by_size c =
    let v = c.args.verts.now in
    let f = c.args.faces.now in
    record { body = is_body v f (length c.args.work.now) c.requires.0 (none-vertex v f (sym c.no_such_vertex.ensures ∙ c.in_ok-no_such_vertex.was)) }

pub returns : goal.returns
unfolding surface_cause
returns c =
    let named : no_such_vertex (vertex_count c.args.verts.now) c.args.faces.now ≡ Ok tt = sym c.no_such_vertex.ensures ∙ c.in_ok-no_such_vertex.was in
    let v = c.args.verts.now in
    let f = c.args.faces.now in
    let w = c.args.work.now in
    let a = c.by_size.ensures in
    let e : surface_cause v f ≡ order_cause v f (order_list f) = ap (λ (d : Cause). or_else d (order_cause v f (order_list f))) named in record { value = a.answer ∙ sym (ap (λ (d : Cause). solid_of d (volume v f)) e); work_after = ap (λ (l : List ℕ). l ++ drop (length f) w) a.work ∙ sym (ap (λ (d : Cause). work_after d f w) e ∙ work-order f w v); mates_after = a.mates ∙ sym (ap (λ (d : Cause). mates_after d f c.args.mates.now) e) }
