-- `mesh_check::check_mesh` meets its contract: the causes 1, 2, 12 and 3 in order, then those of `check_surface`. Assumes nothing.
use mathlib.Core.Path.{◌≡◌, sym, ap, ◌∙◌}
use lib.ListN.{length}
use Rattle.std.specs.Prelude.{Ok}
use Rattle.refusals.specs.Answer.{or_answer}
use Rattle.refusals.specs.Causes.{Cause}
use Rattle.mesh.specs.Surface.{volume}
use Rattle.mesh.specs.Check.{surface_cause, mesh_cause, check_mesh, work_after}
use Rattle.mesh.specs.CauseLaws.{none-count}
use Rattle.std.proofs.lemmas.Result.{err_from_is_err_and}
use Rattle.mesh_check.proofs.Answers.{not-counted, out-of-limits, go_on}
use Rattle.mesh_check.proofs.check_mesh.Goals as goal

pub returns-in_err-count_cause : goal.returns-in_err-count_cause
returns-in_err-count_cause c =
    let whole = not-counted c.args.verts.now c.args.faces.now c.args.work.now _ (sym c.count_cause.ensures ∙ c.in_err-count_cause.was) in
    let p = err_from_is_err_and c.from_residual.result c.from_residual.ensures.1 in
    record { result_value = rw (p.1, p.2) whole.0; work_after = whole.1 }

pub returns-in_err-out_of_limits : goal.returns-in_err-out_of_limits
returns-in_err-out_of_limits c =
    let whole =
    out-of-limits c.args.verts.now c.args.faces.now c.args.work.now (sym c.count_cause.ensures ∙ c.in_ok-count_cause.was) _
    (sym c.out_of_limits.ensures ∙ c.in_err-out_of_limits.was) in
    let p = err_from_is_err_and c.from_residual-in_err-out_of_limits.result c.from_residual-in_err-out_of_limits.ensures.1 in
    record { result_value = rw (p.1, p.2) whole.0; work_after = whole.1 }

pub check_surface-requires : goal.check_surface-requires
check_surface-requires c = none-count c.args.verts.now c.args.faces.now (length c.args.work.now) (sym c.count_cause.ensures ∙ c.in_ok-count_cause.was)

pub returns : goal.returns
unfolding check_mesh
returns c =
    let v = c.args.verts.now in
    let f = c.args.faces.now in
    let w = c.args.work.now in
    let e : mesh_cause v f (length w) ≡ surface_cause v f = go_on v f w (sym c.count_cause.ensures ∙ c.in_ok-count_cause.was) (sym c.out_of_limits.ensures ∙ c.in_ok-out_of_limits.was) in
    record {
      result_value = c.check_surface.ensures.value ∙ sym (ap (λ (x : Cause). or_answer x (Ok (volume v f))) e);
      work_after = c.check_surface.ensures.work_after ∙ sym (ap (λ (x : Cause). work_after x f w) e);
    }
