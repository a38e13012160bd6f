-- `polyhedron_group::group` meets its contract. Assumes nothing.
use Rattle.polyhedron_group.specs.Group.{raw_normal}
use Rattle.polyhedron_group.proofs.Describing.{describes}
use Rattle.polyhedron_faces.proofs.SidesMade.{units}
use Rattle.polyhedron_group.proofs.group.Goals as goal

pub returns : goal.returns
returns c =
    λ l.
    let a = c.args.range in
    let v = c.corners.new.c in
    let n = units (raw_normal v.x v.y v.z) c.raw_normals.ensures.lanes c.roots.ensures c.raw_normals.ensures.vectors c.units.ensures in
    record {
      faces = describes a.mesh.verts.now a.mesh.faces.now a.first c.corners.ensures n c.sides.ensures.vectors c.sides.ensures.lanes;
      dyads = record { of_side = c.side_dyads.ensures; of_face = c.face_dyads.ensures };
    }
