-- `polyhedron_far_one::add_tetrahedron` meets its contract. Assumes nothing.
use Rattle.polyhedron_far_one.proofs.Faces.{face_added}
use Rattle.polyhedron_far_one.proofs.add_tetrahedron.Goals as goal

pub returns : goal.returns
returns c =
    let a = c.args in
    face_added a.p a.apex a.mesh.verts.now a.mesh.faces.now a.k a.sums.now.pairs
    c.corner-b.ensures c.corner-c.ensures c.corner-d.ensures c.over_face-s.ensures
    c.fill.ensures c.field-f.ensures c.into.ensures c.add.ensures
