-- Lengths and directions of the faces and edges of a polyhedron, and its corners as a station sees them, with the roundings in the order of the Rust's `edge_face_sums`. Definitions only.
use Rattle.std.specs.Prelude.{ℕ}
use Rattle.newtonian.specs.Vectors.{difference, cross, over, norm}
use Rattle.newtonian.specs.declared.Vector.{Vector}
use Rattle.polyhedron_edge_terms.specs.declared.Corner.{Corner}
use Rattle.polyhedron_edge_terms.specs.declared.Side.{Side}

-- a / |a|
unfoldable pub unit : Vector → Vector
unit a = over a (norm a)

-- the side from a to b of a face with the unit normal n, between the vertices i and j: n̂_e, its unit normal in the face's plane, and its length e.
-- None of it depends on the station.
unfoldable pub side_of : Vector → Vector → Vector → ℕ → ℕ → Side
side_of n a b i j =
    let edge = difference b a in
    record { from = i; to = j; normal = unit (cross edge n); length = norm edge }

-- the corner at q seen from the station p: its offset r, and its distance l = |r|
unfoldable pub seen : Vector → Vector → Corner
seen p q = let r = difference q p in record { r = r; l = norm r }
