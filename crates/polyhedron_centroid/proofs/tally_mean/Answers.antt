-- `polyhedron_centroid::tally_mean` meets its contract. Assumes nothing.
use Rattle.polyhedron_centroid.specs.Centroid.{tally_mean}
use Rattle.polyhedron_centroid.proofs.tally_mean.Goals as goal

pub returns : goal.returns
unfolding tally_mean
returns c = c.over.ensures
