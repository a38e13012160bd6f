-- `polyhedron::polyhedron_at` meets its contract. Assumes nothing.
use Rattle.polyhedron.specs.Polyhedron.{polyhedron_from}
use Rattle.polyhedron.proofs.polyhedron_at.Goals as goal

pub returns-then-is_far : goal.returns-then-is_far
unfolding polyhedron_from
returns-then-is_far c = simp (← c.is_far.ensures, c.if-is_far.true, c.tetrahedra.ensures)

pub returns : goal.returns
unfolding polyhedron_from
returns c = simp (← c.is_far.ensures, c.if-is_far.false, c.edge_face_sums.ensures)
