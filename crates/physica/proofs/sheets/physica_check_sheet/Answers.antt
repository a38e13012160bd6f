-- `physica::sheets::physica_check_sheet` meets its contract. Assumes nothing.
use Rattle.physica.proofs.InNumbers.{checks_lent}
use Rattle.physica.proofs.sheets.physica_check_sheet.Goals as goal

pub returns : goal.returns
returns c = let checked = c.check_sheet in checks_lent _ _ checked.ensures.result_value checked.ensures.by_index c.give_values.ensures
