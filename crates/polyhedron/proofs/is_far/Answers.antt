-- `polyhedron::is_far` meets its contract. Assumes nothing.
use Rattle.polyhedron.specs.Polyhedron.{is_far}
use Rattle.polyhedron.proofs.is_far.Goals as goal

pub returns : goal.returns
unfolding is_far
returns c = simp (c.root.ensures, c.squared_distance-squared.ensures)
