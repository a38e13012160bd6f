-- `next` of the iterator gives the row at which it stands, and leaves those after it. Assumes nothing.
use Rattle.std.proofs.Common.{◌≡◌, ◌+◌, ◌≤◌, ◌<◌, length, suc, ap, arith, sym, ◌∙◌, List, ℕ, ◌∷◌}
use Rattle.sheet_handle.specs.RowAfterRow.{row_count, rows_from}
use Rattle.sheet_handle.specs.Laws.{none_left, one-left}
use Rattle.sheet_handle.proofs.RowsIterator.next.Goals as goal

pub returns-then-row_count-self-clause-steps : goal.returns-then-row_count-self-clause-steps
returns-then-row_count-self-clause-steps c =
    let h = c.args.self.now in
    let past : row_count h.sheet.now ≤ h.at = omega (arith, c.row_count.ensures) in
    (none_left h.sheet.now h.at past, none_left h.sheet.now h.at past)

pub returns-clause-steps : goal.returns-clause-steps
returns-clause-steps c =
    let h = c.args.self.now in
    let below : h.at < row_count h.sheet.now = omega (arith, c.row_count.ensures) in
    one-left h.sheet.now h.at below ∙ ap (λ (x : List ℕ). x ∷ rows_from h.sheet.now (h.at + 1)) (sym c.sheet_row-part.ensures)

pub returns-clause-goes : goal.returns-clause-goes
returns-clause-goes c =
    let h = c.args.self.now in
    let below : h.at < row_count h.sheet.now = omega (arith, c.row_count.ensures) in
    let fewer : length (rows_from h.sheet.now h.at) ≡ suc (length (rows_from h.sheet.now (h.at + 1))) = ap length (one-left h.sheet.now h.at below) in
    omega (arith, fewer)
