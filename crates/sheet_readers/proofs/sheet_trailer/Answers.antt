-- `sheet_readers::sheet_trailer` meets its contract. Assumes nothing.
use Rattle.std.proofs.lemmas.Result.{err_from_is_err_and}
use Rattle.sheet_readers.proofs.Handed.{no_trailer, trailer_given}
use Rattle.sheet_readers.proofs.sheet_trailer.Goals as goal

pub returns-in_err-open : goal.returns-in_err-open
returns-in_err-open c =
    let p = err_from_is_err_and c.from_residual.result c.from_residual.ensures.1 in
    rw (p.1, p.2) (no_trailer c.args.sheet.now _ c.in_err-open.ensures)

pub returns : goal.returns
returns c =
    let opened = c.in_ok-open.ensures in
    trailer_given c.args.sheet.now opened.1 _ (rw (← opened.0) c.in_ok-open.field-0.read)
