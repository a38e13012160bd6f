-- `sheet_handle::nth_row` meets its contract. Assumes nothing.
use mathlib.Core.Path.{sym, ◌∙◌}
use native.Mathlib.Omega.{arith}
use Rattle.sheet_handle.specs.Laws.{past_last, numbered}
use Rattle.sheet_handle.proofs.nth_row.Goals as goal

pub returns-then-row_count-n : goal.returns-then-row_count-n
returns-then-row_count-n c = sym (past_last c.args.sheet.now c.args.n (omega (arith, c.row_count.ensures)))

pub returns : goal.returns
returns c = c.row_after.ensures ∙ numbered c.args.sheet.now c.args.n
