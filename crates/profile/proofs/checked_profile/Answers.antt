-- `profile::checked_profile` meets its contract: with the centroid and the radius the field is that of the checked mesh. Assumes nothing.
use Rattle.polyhedron.specs.Polyhedron.{polyhedron_at}
use Rattle.profile.proofs.checked_profile.Goals as goal

pub returns : goal.returns
unfolding polyhedron_at
returns c = rw (c.of.ensures.1, c.of.ensures.0, c.mesh.ensures.0, c.mesh.ensures.1) at c.profile_fields.ensures
