-- `polyhedron_sight::triple_of` meets its contract. Assumes nothing.
use Rattle.polyhedron_sight.specs.Sight.{triple}
use Rattle.polyhedron_sight.proofs.triple_of.Goals as goal

pub returns : goal.returns
unfolding triple
returns c = rw (c.dot.ensures, c.cross.ensures)
