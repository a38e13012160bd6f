-- `prism_corner_lanes::corner_sums` meets its contract. Assumes nothing.
use mathlib.Core.Path.{◌∙◌}
use Rattle.prism_corner_lanes.proofs.CornersMade.{sums_are}
use Rattle.prism_corner_lanes.proofs.corner_sums.Goals as goal

pub returns-in-Some : goal.returns-in-Some
returns-in-Some c =
    c.sum.ensures
    ∙ sums_are c.args.bounds.lo (rw (← c.offset.ensures, ← c.offset-2.ensures) c.new-c.ensures) c.in-Some.ensures c.angles.ensures
