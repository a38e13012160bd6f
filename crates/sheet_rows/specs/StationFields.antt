-- What is known of the fields at up to eight stations of a sheet: of n, of which the first has the number first, the list q has each in its place. places are the stations', v is the vertex
-- list and f the face list. Definitions only.
use Rattle.std.specs.Prelude.{◌≡◌, List, ℕ, ◌+◌, ◌<◌, Float, get_or}
use Rattle.refusals.specs.Answer.{Answer}
use Rattle.newtonian.specs.declared.Vector.{Vector}
use Rattle.newtonian.specs.declared.Newtonian.{Newtonian}
use Rattle.polyhedron_blocks.specs.Blocks.{no_vector}
use Rattle.polyhedron_fields.specs.BlockFields.{no_field}
use Rattle.sheet_rows.specs.Row.{field_at}

pub record StationFields (kind first n : ℕ) (places : List Vector) (v : List Float) (f : List ℕ) (q : List (Answer Newtonian)) : Type 0 where
  pub at : (j : ℕ) → j < n → (get_or q j no_field) ≡ field_at kind (first + j) (get_or places j no_vector) v f
