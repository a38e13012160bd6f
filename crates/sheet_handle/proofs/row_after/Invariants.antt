-- `sheet_handle::row_after`: after i moves the handle is on the same sheet, at the row where i moves lead. Assumes nothing.
use Rattle.std.proofs.Common.{◌≡◌}
use Rattle.sheet_handle.specs.RowAfterRow.{after_moves}
use Rattle.sheet_handle.proofs.row_after.Given as goal

abbrev pub invariant-loop-i : goal.invariant-loop-i
invariant-loop-i l = (l.h.sheet.now ≡ l.sheet) × (l.h.at ≡ after_moves l.sheet l._i)
