-- `polyhedron_centroid::add_vertex` meets its contract. Assumes nothing.
use Rattle.polyhedron_centroid.specs.Centroid.{add_vertex}
use Rattle.polyhedron_centroid.proofs.add_vertex.Goals as goal

pub returns : goal.returns
unfolding add_vertex
returns c = simp (c.add_vectors-sum.ensures, c.vertex-q.ensures)
