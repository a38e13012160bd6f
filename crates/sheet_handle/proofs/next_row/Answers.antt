-- `sheet_handle::next_row` meets its contract. Assumes nothing.
use mathlib.Core.Path.{sym}
use native.Mathlib.Omega.{arith}
use Rattle.sheet_handle.specs.Laws.{next-below, next_past}
use Rattle.sheet_handle.proofs.next_row.Goals as goal

pub returns-then-at-row_count : goal.returns-then-at-row_count
returns-then-at-row_count c = sym (next-below c.args.sheet.now c.args.at (omega (arith, c.row_count.ensures)))

pub returns : goal.returns
returns c = sym (next_past c.args.sheet.now c.args.at (omega (arith, c.row_count.ensures)))
