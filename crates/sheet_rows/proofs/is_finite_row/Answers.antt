-- `sheet_rows::is_finite_row` meets its contract. Assumes nothing.
use mathlib.Core.Path.{ap, ◌∙◌}
use Rattle.sheet_rows.specs.Row.{all_finite, is_finite_row}
use Rattle.sheet_rows.proofs.is_finite_row.Goals as goal

pub returns : goal.returns
unfolding is_finite_row
returns c = c.all_finite.ensures ∙ ap all_finite c.row_numbers-numbers.ensures
