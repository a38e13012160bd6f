-- A group of a mesh's faces. Definitions only.
use Rattle.std.specs.Prelude.{List, ℕ, Float}
use Rattle.mesh.specs.Surface.{face_count}
use Rattle.polyhedron_edge_face_sums.specs.EdgeFaceSums.{triangle_of}
use Rattle.polyhedron_faces.specs.declared.Group.{Group}
use Rattle.polyhedron_faces.specs.Held.{HoldsFaces, HoldsDyads}
use Rattle.polyhedron_group.specs.Group.{face_in}

-- g holds the faces from first on, of the mesh v, f, and the dyads of their normals
pub record HoldsGroup (v : List Float) (f : List ℕ) (first : ℕ) (g : Group) : Type 0 where
  pub faces : HoldsFaces (λ k. triangle_of v f (face_in first (face_count f) k)) g
  pub dyads : HoldsDyads g
