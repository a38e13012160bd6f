-- `polyhedron_far_lanes::EightFields::zero` meets its contract. Assumes nothing.
use Rattle.polyhedron_far_lanes.proofs.Putting.{zero-fields}
use Rattle.polyhedron_far_lanes.proofs.EightFields.zero.Goals as goal

pub returns : goal.returns
returns c = zero-fields
