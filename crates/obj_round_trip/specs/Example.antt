-- The smallest example with −0, by computing: one vertex (−0, 1, 2) and one face. States: `example_given`: `write_obj` accepts it for a lent text of 17 bytes; `example_text`: it writes
-- "v -0 1 2" and "f 1 1 1"; `example_doubles`: its coordinates are doubles. So the conditions of `written_and_read` can be met. Assumes nothing.
use Rattle.std.specs.Prelude.{◌≡◌, refl, List, [], ◌∷◌, ℕ, zero, suc, Float}
use Rattle.std.specs.Float.Ieee.{of_bits, neg, fits}
use Rattle.std.specs.Prelude.{Ok}
use Rattle.refusals.specs.Causes.{first_of}
use Rattle.doubles.specs.Constants.{1·0, 2·0, -0·0}
use Rattle.doubles.specs.Magnitude.{negative}
use Rattle.mesh.specs.Check.{malformed, too_many, no_such_vertex}
use Rattle.obj.specs.Whole.{magnitude_of, is_whole}
use Rattle.obj.specs.Writer.{numeral, coordinate, vertex_line, face_line, written, text_of, not_whole, text_too_short, given_cause, writer_cause}
use Rattle.obj_round_trip.specs.RoundTrip.{Doubles}

abbrev vertices : List Float
vertices = -0·0 ∷ 1·0 ∷ 2·0 ∷ []

abbrev faces : List ℕ
faces = 0 ∷ 0 ∷ 0 ∷ []

pub example_text : text_of vertices faces ≡ 118 ∷ 32 ∷ 45 ∷ 48 ∷ 32 ∷ 49 ∷ 32 ∷ 50 ∷ 10 ∷ 102 ∷ 32 ∷ 49 ∷ 32 ∷ 49 ∷ 32 ∷ 49 ∷ 10 ∷ []
unfolding of_bits neg negative magnitude_of numeral coordinate vertex_line face_line written text_of
example_text = refl

pub example_given : writer_cause vertices faces 17 ≡ Ok tt
unfolding of_bits neg negative magnitude_of is_whole numeral coordinate vertex_line face_line written text_of first_of malformed too_many no_such_vertex not_whole text_too_short given_cause writer_cause
example_given = refl

pub example_doubles : Doubles vertices
unfolding of_bits neg fits
example_doubles zero l = tt
example_doubles (suc zero) l = tt
example_doubles (suc (suc zero)) l = tt
example_doubles (suc (suc (suc i))) l = tt
