-- `polyhedron_group::face_dyads` meets its contract. Assumes nothing.
use Rattle.polyhedron_faces.specs.Faces.{face_dyad}
use Rattle.polyhedron_group.proofs.FillingDyads.{FilledDyads}
use Rattle.polyhedron_group.proofs.face_dyads.Given as goal

abbrev pub invariant-loop-k : goal.invariant-loop-k
invariant-loop-k l = FilledDyads 8 (face_dyad l.normals.x l.normals.y l.normals.z) l.k l.d
