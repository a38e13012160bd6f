-- `profile::profile` meets its contract. Assumes nothing.
use mathlib.Core.Path.{sym, ap, ◌∙◌}
use lib.ListN.{length}
use Rattle.std.proofs.lemmas.Result.{err_from_is_err_and}
use Rattle.mesh_orders.specs.OrderLaws.{order-length}
use Rattle.profile.proofs.Answers.{not-given, counted, not-accepted, success}
use Rattle.profile.proofs.profile.Goals as goal

pub returns-in_err-given_cause : goal.returns-in_err-given_cause
returns-in_err-given_cause c =
    let s = c.args in
    let whole = not-given s.verts.now s.faces.now s.stations.now s.work.now s.fields.now _ (sym c.in_err-given_cause.ensures) in
    let p = err_from_is_err_and c.from_residual.result c.from_residual.ensures.1 in
    record { value = rw (p.1, p.2) whole.0; work = whole.1.0; fields = whole.1.1 }

pub check_surface-requires : goal.check_surface-requires
check_surface-requires c = let s = c.args in counted s.verts.now s.faces.now s.stations.now s.work.now s.fields.now (sym c.in_ok-given_cause.ensures)

pub returns-in_err-check_surface : goal.returns-in_err-check_surface
returns-in_err-check_surface c =
    let s = c.args in
    let k = c.check_surface in
    let whole = not-accepted s.verts.now s.faces.now s.stations.now s.work.now s.fields.now (sym c.in_ok-given_cause.ensures)
    k.new.work k.ensures.work_after _ (sym c.in_err-check_surface.ensures.value) in
    let p = err_from_is_err_and c.from_residual-in_err-check_surface.result c.from_residual-in_err-check_surface.ensures.1 in
    record { value = rw (p.1, p.2) whole.0; work = whole.1.0; fields = whole.1.1 }

pub slice_bounds-order-end : goal.slice_bounds-order-end
slice_bounds-order-end c =
    let s = c.args in
    let k = c.check_surface in
    (success s.verts.now s.faces.now s.stations.now s.work.now s.fields.now (sym c.in_ok-given_cause.ensures)
    k.new.work k.ensures.work_after _ (sym c.in_ok-check_surface.ensures.value)).room

pub slice_bounds-order-end-2 : goal.slice_bounds-order-end-2
slice_bounds-order-end-2 c =
    let s = c.args in
    let k = c.check_surface in
    sym (ap length (success s.verts.now s.faces.now s.stations.now s.work.now s.fields.now (sym c.in_ok-given_cause.ensures)
    k.new.work k.ensures.work_after _ (sym c.in_ok-check_surface.ensures.value)).front ∙ order-length s.faces.now)

pub invariant_of-ordered : goal.invariant_of-ordered
invariant_of-ordered c =
    let s = c.args in
    let k = c.check_surface in
    let e = success s.verts.now s.faces.now s.stations.now s.work.now s.fields.now (sym c.in_ok-given_cause.ensures)
    k.new.work k.ensures.work_after _ (sym c.in_ok-check_surface.ensures.value) in
    record { body = e.body; sorted = e.front }

pub checked_profile-requires : goal.checked_profile-requires
checked_profile-requires c =
    let s = c.args in
    let k = c.check_surface in
    let e = success s.verts.now s.faces.now s.stations.now s.work.now s.fields.now (sym c.in_ok-given_cause.ensures)
    k.new.work k.ensures.work_after _ (sym c.in_ok-check_surface.ensures.value) in
    (e.few, e.space)

pub returns : goal.returns
returns c =
    let s = c.args in
    let k = c.check_surface in
    let e = success s.verts.now s.faces.now s.stations.now s.work.now s.fields.now (sym c.in_ok-given_cause.ensures)
    k.new.work k.ensures.work_after _ (sym c.in_ok-check_surface.ensures.value) in
    let whole = e.answered _ _ c.checked_profile.ensures in
    record { value = whole.0; work = whole.1.0; fields = whole.1.1 }
