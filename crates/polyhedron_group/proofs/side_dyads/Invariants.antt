-- `polyhedron_group::side_dyads` meets its contract. Assumes nothing.
use Rattle.polyhedron_faces.specs.Faces.{side_dyad}
use Rattle.polyhedron_group.proofs.FillingDyads.{FilledDyads}
use Rattle.polyhedron_group.proofs.side_dyads.Given as goal

abbrev pub invariant-loop-i : goal.invariant-loop-i
invariant-loop-i l =
    let n = l.normals in
    let m = l.side_normals in
    FilledDyads 24 (side_dyad n.x n.y n.z m.x m.y m.z) l.i l.d
