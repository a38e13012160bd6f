-- What the structs hold: the facts of Faces and Parts at their fields. Definitions only.
use Rattle.std.specs.Prelude.{◌≡◌, List, ℕ, Float, length, replicate}
use Rattle.doubles.specs.Constants.{0·0}
use Rattle.newtonian.specs.Vectors.{diagonal}
use Rattle.newtonian.specs.declared.Vector.{Vector}
use Rattle.polyhedron_edge_face_sums.specs.declared.Triangle.{Triangle}
use Rattle.polyhedron_faces.specs.declared.Vectors.{Vectors}
use Rattle.polyhedron_faces.specs.declared.Group.{Group}
use Rattle.polyhedron_faces.specs.Faces.{Describes, Dyads}
use Rattle.polyhedron_faces.specs.Parts.{RawSides}
use Rattle.polyhedron_faces.specs.Parts as parts

-- each coordinate has n lanes
abbrev pub HasLanes : (n : ℕ) → Vectors n → Type 0
HasLanes n v = (length v.x ≡ n) × (length v.y ≡ n) × (length v.z ≡ n)

-- the n vectors are g 0, g 1, .., g (n - 1)
abbrev pub Holds : (n : ℕ) → (ℕ → Vector) → Vectors n → Type 0
Holds n g v = parts.Vectors n g v.x v.y v.z

-- g holds the faces t 0, t 1, .., t 7
abbrev pub HoldsFaces : (ℕ → Triangle) → Group → Type 0
HoldsFaces t g =
    let c = g.corners in
    let n = g.normals in
    let m = g.side_normals in
    Describes t c.x c.y c.z n.x n.y n.z m.x m.y m.z g.lengths

-- and the dyads of its normals
abbrev pub HoldsDyads : Group → Type 0
HoldsDyads g =
    let n = g.normals in
    let m = g.side_normals in
    Dyads n.x n.y n.z m.x m.y m.z g.side_dyads g.face_dyads

-- of corners and faces' normals: m, q and d hold the first n sides' normals, not yet of length 1, the squares of these, and those of the sides themselves
abbrev pub HoldsSides : ℕ → Vectors 24 → Vectors 8 → Vectors 24 → List Float → List Float → Type 0
HoldsSides n c f m q d = RawSides n c.x c.y c.z f.x f.y f.z m.x m.y m.z q d

-- all numbers 0
abbrev pub zero_vectors : (n : ℕ) → Vectors n
zero_vectors n = let o = replicate n 0·0 in record { x = o; y = o; z = o }

abbrev pub zero_group : Group
zero_group = record {
  corners = zero_vectors 24;
  normals = zero_vectors 8;
  side_normals = zero_vectors 24;
  lengths = replicate 24 0·0;
  side_dyads = replicate 24 (diagonal 0·0);
  face_dyads = replicate 8 (diagonal 0·0);
}
