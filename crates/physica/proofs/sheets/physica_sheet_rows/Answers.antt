-- `physica::sheets::physica_sheet_rows` meets its contract. Assumes nothing.
use mathlib.Core.Path.{ap}
use lib.ListN.{length}
use Rattle.physica.proofs.RowsPlace.{rows-place}
use Rattle.physica.proofs.sheets.physica_sheet_rows.Goals as goal

pub returns : goal.returns
returns c = let e = ap length c.sheet_rows-rows.ensures in record { count = e; place = rw e (rows-place _) }
