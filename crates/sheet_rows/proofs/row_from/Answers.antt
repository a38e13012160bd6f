-- `sheet_rows::row_from` meets its contract. Assumes nothing.
use Rattle.sheet_rows.specs.Row.{row_from}
use Rattle.sheet_rows.proofs.row_from.Goals as goal

pub returns : goal.returns
unfolding row_from
returns c = simp (c.total_field_of.ensures, c.body_of-anomaly.ensures, c.magnetic_constant.ensures)
