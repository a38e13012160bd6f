-- `lanes_atan2::atan2_from` meets its contract. Assumes nothing.
use mathlib.Core.Path.{◌∙◌}
use Rattle.lanes_atan2.specs.AtanLanes.{atan2_from}
use Rattle.lanes_atan2.proofs.atan2_from.Goals as goal

pub returns : goal.returns
unfolding atan2_from
returns c = c.pick.ensures ∙ rw c.signed.ensures
