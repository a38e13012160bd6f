-- `polyhedron_centroid::farther` meets its contract. Assumes nothing.
use Rattle.polyhedron_centroid.specs.Centroid.{farther}
use Rattle.polyhedron_centroid.proofs.farther.Goals as goal

pub returns : goal.returns
unfolding farther
returns c = simp (c.max.ensures, c.squared_distance.ensures, c.vertex.ensures)
