-- `polyhedron::single_point` meets its contract. Assumes nothing.
use Rattle.polyhedron.specs.Polyhedron.{polyhedron_at}
use Rattle.polyhedron.proofs.single_point.Goals as goal

pub returns : goal.returns
unfolding polyhedron_at
returns c = simp (c.polyhedron_at.ensures, c.mesh.ensures.0, c.mesh.ensures.1, c.of.ensures.1, c.of.ensures.0)
