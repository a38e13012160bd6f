-- `polyhedron_logarithms::ratio_of` meets its contract. Assumes nothing.
use Rattle.polyhedron_edge_terms.specs.EdgeTerms.{gap}
use Rattle.polyhedron_logarithms.specs.Sides.{ratio}
use Rattle.polyhedron_logarithms.proofs.ratio_of.Goals as goal

pub returns : goal.returns
unfolding ratio gap
returns c = rw (c.pick.ensures, c.dot.ensures, c.cross-c.ensures, c.dot-ab.ensures)
