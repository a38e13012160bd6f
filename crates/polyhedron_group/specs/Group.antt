-- Which faces of a mesh stand side by side, and their normals on the way. Definitions only.
use Rattle.std.specs.Prelude.{cond, List, ℕ, ◌+◌, ◌-◌, ltb, Float}
use Rattle.newtonian.specs.Vectors.{cross, difference}
use Rattle.newtonian.specs.declared.Vector.{Vector}
use Rattle.polyhedron_faces.specs.Faces.{vector_at}

-- the face in lane k of the group that begins with the face first, in a mesh of n faces: past the last face that one again
unfoldable pub face_in : ℕ → ℕ → ℕ → ℕ
face_in first n k = cond (ltb (first + k) n) (first + k) (n - 1)

-- groups of fewer faces are not made
abbrev pub fewest : ℕ
fewest = 5

-- of corners in arrays: the normal of the face in lane k, not yet of length 1
abbrev pub raw_normal : List Float → List Float → List Float → ℕ → Vector
raw_normal cx cy cz k =
    cross (difference (vector_at cx cy cz (8 + k)) (vector_at cx cy cz k)) (difference (vector_at cx cy cz (16 + k)) (vector_at cx cy cz k))
