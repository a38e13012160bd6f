-- The sums of EightFaces from structs: a group of faces, and what a station sees of it. Definitions only.
use Rattle.std.specs.Prelude.{ℕ}
use Rattle.newtonian.specs.declared.Vector.{Vector}
use Rattle.newtonian.specs.declared.Newtonian.{Newtonian}
use Rattle.polyhedron_faces.specs.declared.Group.{Group}
use Rattle.polyhedron_sight.specs.declared.SeenFaces.{SeenFaces}
use Rattle.polyhedron_eight_faces.specs.EightFaces.{add_side_at, add_face_at}

module _ (g : Group) (s : SeenFaces) where
  abbrev pub add_side_of : Vector → ℕ → Newtonian → Newtonian
  add_side_of =
      let m = g.side_normals in
      let o = s.corners.offsets in
      add_side_at m.x m.y m.z o.x o.y o.z s.logarithms

  abbrev pub add_face_of : ℕ → Newtonian → Newtonian
  add_face_of =
      let m = g.side_normals in
      let n = g.normals in
      let o = s.corners.offsets in
      add_face_at m.x m.y m.z o.x o.y o.z s.logarithms n.x n.y n.z s.angles
