-- `physica::sheets::physica_write_sheet` meets its contract. Assumes nothing.
use Rattle.physica.proofs.InNumbers.{writes_lent}
use Rattle.physica.proofs.sheets.physica_write_sheet.Goals as goal

pub returns : goal.returns
returns c = rw (← c.from-m.ensures, ← c.from-b.ensures) (writes_lent c.write_sheet.ensures c.give_values.ensures)
