-- The fields at the n stations of a block, of which the first has the number first: the list q has each in its place. places are the stations', c and r the centroid and the radius of a mesh
-- with the vertices v and the faces f. Definitions only.
use Rattle.std.specs.Prelude.{◌≡◌, List, ℕ, ◌+◌, ◌<◌, Float, get_or, Ok}
use Rattle.refusals.specs.Answer.{Answer}
use Rattle.newtonian.specs.declared.Newtonian.{Newtonian}
use Rattle.newtonian.specs.declared.Vector.{Vector}
use Rattle.polyhedron_blocks.specs.Blocks.{no_run, no_vector}
use Rattle.polyhedron.specs.Polyhedron.{polyhedron_from}

-- what a list of fields holds past its end
abbrev pub no_field : Answer Newtonian
no_field = Ok no_run.field

pub record BlockFields (first n : ℕ) (places : List Vector) (c : Vector) (r : Float) (v : List Float) (f : List ℕ) (q : List (Answer Newtonian)) : Type 0 where
  pub at : (j : ℕ) → j < n → get_or q j no_field ≡ polyhedron_from (first + j) (get_or places j no_vector) c r v f
