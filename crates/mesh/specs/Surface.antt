-- The computed normals and volume of a mesh, in the order of roundings of the Rust's `check_mesh`. `v` is the vertex list, three coordinates to a vertex, and `f` the
-- face list, three vertex numbers to a face. Definitions only.
use Rattle.std.specs.Prelude.{Bool, ◌&&◌, List, ℕ, ◌+◌, ◌*◌, ◌/◌, length, get_or, Float}
use Rattle.std.specs.Float.{nan}
use Rattle.std.specs.Float.Ieee.{eq}
use Rattle.lists.specs.Count.{Below}
use Rattle.mesh_orders.specs.Edges.{Faces}
use Rattle.doubles.specs.Rounded.{◌⊕◌, ◌⊘◌}
use Rattle.doubles.specs.Constants.{0·0, 6·0}
use Rattle.newtonian.specs.declared.Vector.{Vector}
use Rattle.newtonian.specs.Vectors.{difference, dot, cross}
use Rattle.newtonian.specs.Fold.{Fold}

-- V and F
abbrev pub vertex_count : List Float → ℕ
vertex_count v = length v / 3

abbrev pub face_count : List ℕ → ℕ
face_count f = length f / 3

-- a face list within the limits whose corners name vertices of v
pub record Body (v : List Float) (f : List ℕ) : Type 0 where
  pub faces : Faces f
  pub inside : Below f (vertex_count v)

-- the vertex with number i
abbrev pub vertex : List Float → ℕ → Vector
vertex v i = record { x = get_or v (3 * i) nan; y = get_or v (3 * i + 1) nan; z = get_or v (3 * i + 2) nan }

-- corner j of face k
abbrev pub corner : List Float → List ℕ → ℕ → ℕ → Vector
corner v f k j = vertex v (get_or f (3 * k + j) 0)

-- the computed normal of face k, (v₁ − v₀) × (v₂ − v₀)
unfoldable pub normal : List Float → List ℕ → ℕ → Vector
normal v f k = cross (difference (corner v f k 1) (corner v f k 0)) (difference (corner v f k 2) (corner v f k 0))

-- a normal is zero if each part is +0 or −0
unfoldable pub is_zero : Vector → Bool
is_zero n = eq n.x 0·0 && (eq n.y 0·0 && eq n.z 0·0)

-- what face k adds to the volume, v₀·n / 6
unfoldable pub face_volume : List Float → List ℕ → ℕ → Float
face_volume v f k = dot (corner v f k 0) (normal v f k) ⊘ 6·0

-- the computed volume: the sum over the faces in order, from 0
abbrev pub add_face_volume : List Float → List ℕ → ℕ → Float → Float
add_face_volume v f k s = s ⊕ face_volume v f k

unfoldable pub volume : List Float → List ℕ → Float
volume v f = Fold (face_count f) (add_face_volume v f) 0·0
