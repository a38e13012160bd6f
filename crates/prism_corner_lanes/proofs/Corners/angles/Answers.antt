-- `prism_corner_lanes::Corners::angles` meets its contract. Assumes nothing.
use mathlib.Core.Path.{◌∙◌}
use Rattle.lanes.proofs.Filling.{one-filled, all-filled}
use Rattle.prism_corner_lanes.proofs.CornersMade.{angle-from}
use Rattle.prism_corner_lanes.proofs.Corners.angles.Goals as goal

pub loop-k-preserved : goal.loop-k-preserved
loop-k-preserved c = one-filled c.loop-k.invariant c.loop-k-test.true c.pick.ensures

pub returns : goal.returns
returns c =
    let o = all-filled c.loop-k.invariant c.loop-k-test.false in
    let q = c.quotients.ensures in
    record { size = o.size; at = λ k h. o.at k h ∙ angle-from _ _ _ _ (c.atan.ensures.at k h) (q.at k h) }
