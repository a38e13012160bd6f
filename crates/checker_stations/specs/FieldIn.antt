-- The field at station i of the sheet b, for the contracts of inner functions. Definitions only.
use Rattle.std.specs.Prelude.{List, ℕ}
use Rattle.refusals.specs.Answer.{Answer}
use Rattle.newtonian.specs.declared.Newtonian.{Newtonian}
use Rattle.mesh.specs.Surface.{vertex}
use Rattle.sheet_rows.specs.Row.{field_at}
use Rattle.sheet.specs.Checker.{kind_in, parse}

abbrev pub field_in : List ℕ → ℕ → Answer Newtonian
field_in b i = field_at (kind_in b) i (vertex (parse b).stations i) (parse b).vertices (parse b).faces
