-- `polyhedron_eight_faces::add_side` meets its contract. Assumes nothing.
use Rattle.polyhedron_eight_faces.specs.EightFaces.{add_side_at}
use Rattle.polyhedron_eight_faces.proofs.add_side.Goals as goal

pub returns : goal.returns
unfolding add_side_at
returns c = rw (c.add_edge_dyad.ensures, c.at-r.ensures, c.at-m.ensures)
