-- `polyhedron_centroid::OrderedMesh::centroid` meets its contract. Assumes nothing.
use Rattle.polyhedron_centroid.specs.Centroid.{centroid}
use Rattle.polyhedron_centroid.proofs.OrderedMesh.centroid.Goals as goal

pub returns : goal.returns
unfolding centroid
returns c = simp (c.tally_mean.ensures, c.tally_used.ensures)
