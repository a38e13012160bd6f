-- `polyhedron_centroid::squared_distance` meets its contract. Assumes nothing.
use Rattle.polyhedron_centroid.specs.Centroid.{squared_distance}
use Rattle.polyhedron_centroid.proofs.squared_distance.Goals as goal

pub returns : goal.returns
unfolding squared_distance
returns c = simp c.difference-d.ensures
