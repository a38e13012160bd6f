-- `polyhedron_far::Block::add_far_face` meets its contract. Assumes nothing.
use Rattle.polyhedron_far.proofs.Stations.{face_added}
use Rattle.polyhedron_far.proofs.Block.add_far_face.Goals as goal

pub returns : goal.returns
returns c =
    let a = c.args in
    face_added a.self.now.places a.apex a.mesh.verts.now a.mesh.faces.now a.k
    c.corner-b.ensures c.corner-c.ensures c.corner-d.ensures c.over_face-s.ensures
    c.fill.ensures c.add_points.ensures
