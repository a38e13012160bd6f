-- `writer::write_counted` meets its contract: the body's causes, then the sheet or zeros in its place. Assumes nothing.
use Rattle.std.proofs.lemmas.Result.{err_from_is_err_and}
use mathlib.Core.Path.{◌≡◌, sym, ◌∙◌}
use native.Mathlib.Omega.{arith}
use lib.Seq.{length-take-le}
use Rattle.std.specs.Prelude.{Ok, Err}
use Rattle.refusals.specs.Answer.{or_answer}
use Rattle.writer.proofs.Stages.{room, few, mates-within, asked, body_refused, order-size, sheet_fits, stand, prepared, put}
use Rattle.writer.proofs.write_counted.Goals as goal

pub returns-in_err-volume : goal.returns-in_err-volume
returns-in_err-volume c =
    let p = err_from_is_err_and c.from_residual.result c.from_residual.ensures.1 in
    rw (p.1, p.2) (body_refused _ _ _ c.requires (c.check_body.ensures _ _ _) _ c.in_err-volume.was)

pub slice_bounds-put_sheet-end : goal.slice_bounds-put_sheet-end
slice_bounds-put_sheet-end c = omega (arith, (room _ _ _ c.requires).0)

pub slice_bounds-put_sheet-end-2 : goal.slice_bounds-put_sheet-end-2
slice_bounds-put_sheet-end-2 c = sym (order-size _ _ _ c.requires (c.check_body.ensures _ _ _) _ c.in_ok-volume.was)

pub slice_bounds-put_sheet-end-3 : goal.slice_bounds-put_sheet-end-3
slice_bounds-put_sheet-end-3 c = sheet_fits _ _ _ c.requires (c.check_body.ensures _ _ _) _ c.in_ok-volume.was _ c.sheet_length-size.ensures

pub slice_bounds-put_sheet-end-4 : goal.slice_bounds-put_sheet-end-4
slice_bounds-put_sheet-end-4 c = sym (length-take-le _ _ (sheet_fits _ _ _ c.requires (c.check_body.ensures _ _ _) _ c.in_ok-volume.was _ c.sheet_length-size.ensures))

pub put_sheet-requires : goal.put_sheet-requires
put_sheet-requires c =
    let fits = sheet_fits _ _ _ c.requires (c.check_body.ensures _ _ _) _ c.in_ok-volume.was _ c.sheet_length-size.ensures in (
      prepared _ _ _ c.requires (c.check_body.ensures _ _ _) _ c.in_ok-volume.was _ (length-take-le _ _ fits ∙ c.sheet_length-size.ensures),
      stand _ _ _ c.requires (c.check_body.ensures _ _ _) _ c.in_ok-volume.was _ c.sheet_length-size.ensures,
    )

pub returns-in_err-put_sheet : goal.returns-in_err-put_sheet
returns-in_err-put_sheet c =
    let p = err_from_is_err_and c.from_residual-in_err-put_sheet.result c.from_residual-in_err-put_sheet.ensures.1 in
    let told : or_answer c.put_sheet.result (Ok c.sheet_length-size.result) ≡ Err c.in_err-put_sheet.field-0.0 = rw c.in_err-put_sheet.was in
    rw (p.1, p.2) (put _ _ _ c.requires (c.check_body.ensures _ _ _) _ c.in_ok-volume.was _ _ c.sheet_length-size.ensures c.put_sheet.ensures (sym told))

pub returns : goal.returns
returns c =
    let told : or_answer c.put_sheet.result (Ok c.sheet_length-size.result) ≡ Ok c.sheet_length-size.result = rw c.in_ok-put_sheet.was in
    put _ _ _ c.requires (c.check_body.ensures _ _ _) _ c.in_ok-volume.was _ _ c.sheet_length-size.ensures c.put_sheet.ensures (sym told)

pub overflow_add-at : goal.overflow_add-at
overflow_add-at c = omega (arith, mates-within _ _ _ c.requires)

pub overflow_add-end : goal.overflow_add-end
overflow_add-end c = omega (arith, mates-within _ _ _ c.requires)

pub slice_bounds-check_body-end : goal.slice_bounds-check_body-end
slice_bounds-check_body-end c = mates-within _ _ _ c.requires

pub check_body-requires : goal.check_body-requires
check_body-requires c = asked _ _ _ c.requires

pub sheet_length-size-requires : goal.sheet_length-size-requires
sheet_length-size-requires c = few _ _ _ c.requires
