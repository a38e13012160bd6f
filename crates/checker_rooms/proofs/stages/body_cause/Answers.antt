-- `checker_rooms::stages::body_cause` meets its contract: what was read is a body, with its order list. Assumes nothing.
use Rattle.checker_lists.proofs.Lists.{is_body, two_corners, in_order}
use Rattle.checker_rooms.proofs.stages.body_cause.Goals as goal

pub invariant_of-mesh : goal.invariant_of-mesh
invariant_of-mesh c = record { body = is_body _ c.args.sheet.opened _ _ _ c.requires.0 c.requires.1 }

pub invariant_of-body : goal.invariant_of-body
invariant_of-body c = record {
  vertices = c.requires.0.vertices;
  faces = c.requires.0.faces;
  corners = two_corners _ c.args.sheet.opened _ _ _ c.requires.0 c.requires.1;
}

pub stations_cause-requires : goal.stations_cause-requires
stations_cause-requires c = in_order _ c.args.sheet.opened _ _ _ c.requires.0 c.requires.1
