-- `polyhedron_sight::denominator_of` meets its contract. Assumes nothing.
use Rattle.polyhedron_sight.specs.Sight.{denominator}
use Rattle.polyhedron_sight.proofs.denominator_of.Goals as goal

pub returns : goal.returns
unfolding denominator
returns c = rw (c.dot-ab.ensures, c.dot-ca.ensures, c.dot-bc.ensures)
