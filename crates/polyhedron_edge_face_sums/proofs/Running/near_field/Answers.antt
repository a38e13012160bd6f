-- `polyhedron_edge_face_sums::Running::near_field` meets its contract: what it carries is a field and a block of edges. Assumes nothing.
use Rattle.polyhedron_edge_face_sums.proofs.Carrying.{carried_in}
use Rattle.polyhedron_edge_face_sums.specs.EdgeFaceSums.{sums_of}
use Rattle.polyhedron_edge_face_sums.proofs.Running.near_field.Goals as goal

pub returns : goal.returns
returns c =
    let run = c.args.self.now in
    λ p v f h. c.near_field.ensures p v f run.edges.keys (rw c.block.ensures (carried_in (sums_of p v f) run h))
