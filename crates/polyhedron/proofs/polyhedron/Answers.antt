-- `polyhedron::polyhedron` meets its contract. Assumes nothing.
use mathlib.Core.Path.{sym, ap, ◌∙◌}
use lib.ListN.{length}
use Rattle.std.proofs.lemmas.Result.{err_from_is_err_and}
use Rattle.mesh_orders.specs.OrderLaws.{order-length}
use Rattle.polyhedron.proofs.Answers.{not-given, counted, not-accepted, Success, success}
use Rattle.polyhedron.proofs.polyhedron.Goals as goal

pub returns-in_err-given_cause : goal.returns-in_err-given_cause
returns-in_err-given_cause c =
    let whole = not-given c.args.station c.args.verts.now c.args.faces.now c.args.work.now _ (sym c.given_cause.ensures ∙ c.in_err-given_cause.was) in
    let p = err_from_is_err_and c.from_residual.result c.from_residual.ensures.1 in
    record { result_value = rw (p.1, p.2) whole.0; work_after = whole.1 }

pub check_surface-requires : goal.check_surface-requires
check_surface-requires c = counted c.args.station c.args.verts.now c.args.faces.now c.args.work.now (sym c.given_cause.ensures ∙ c.in_ok-given_cause.was)

pub returns-in_err-check_surface : goal.returns-in_err-check_surface
returns-in_err-check_surface c =
    let k = c.check_surface in
    let whole = not-accepted c.args.station c.args.verts.now c.args.faces.now c.args.work.now (sym c.given_cause.ensures ∙ c.in_ok-given_cause.was)
    k.new.work k.ensures.work_after _ (sym k.ensures.value ∙ c.in_err-check_surface.was) in
    let p = err_from_is_err_and c.from_residual-in_err-check_surface.result c.from_residual-in_err-check_surface.ensures.1 in
    record { result_value = rw (p.1, p.2) whole.0; work_after = whole.1 }

pub slice_bounds-order-end : goal.slice_bounds-order-end
slice_bounds-order-end c =
    let k = c.check_surface in
    (success c.args.station c.args.verts.now c.args.faces.now c.args.work.now (sym c.given_cause.ensures ∙ c.in_ok-given_cause.was)
    k.new.work k.ensures.work_after _ (sym k.ensures.value ∙ c.in_ok-check_surface.was)).room

pub slice_bounds-order-end-2 : goal.slice_bounds-order-end-2
slice_bounds-order-end-2 c =
    let k = c.check_surface in
    sym (ap length (success c.args.station c.args.verts.now c.args.faces.now c.args.work.now (sym c.given_cause.ensures ∙ c.in_ok-given_cause.was)
    k.new.work k.ensures.work_after _ (sym k.ensures.value ∙ c.in_ok-check_surface.was)).front ∙ order-length c.args.faces.now)

pub invariant_of-ordered : goal.invariant_of-ordered
invariant_of-ordered c =
    let k = c.check_surface in
    let accepted : Success c.args.station c.args.verts.now c.args.faces.now c.args.work.now k.new.work =
    success c.args.station c.args.verts.now c.args.faces.now c.args.work.now (sym c.given_cause.ensures ∙ c.in_ok-given_cause.was)
    k.new.work k.ensures.work_after _ (sym k.ensures.value ∙ c.in_ok-check_surface.was) in
    record { body = accepted.body; sorted = accepted.front }

pub returns : goal.returns
returns c =
    let k = c.check_surface in
    let accepted : Success c.args.station c.args.verts.now c.args.faces.now c.args.work.now k.new.work =
    success c.args.station c.args.verts.now c.args.faces.now c.args.work.now (sym c.given_cause.ensures ∙ c.in_ok-given_cause.was)
    k.new.work k.ensures.work_after _ (sym k.ensures.value ∙ c.in_ok-check_surface.was) in
    let whole = accepted.answered _ c.single_point.ensures in record { result_value = whole.0; work_after = whole.1 }
