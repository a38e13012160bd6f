-- `polyhedron_centroid::OrderedMesh::radius` meets its contract. Assumes nothing.
use Rattle.polyhedron_centroid.specs.Centroid.{radius}
use Rattle.polyhedron_centroid.proofs.OrderedMesh.radius.Goals as goal

pub returns : goal.returns
unfolding radius
returns c = simp (c.root.ensures, c.farthest.ensures)
