-- `prism_corner_lanes::Corners::logarithms` meets its contract. Assumes nothing.
use mathlib.Core.Path.{◌∙◌}
use Rattle.lanes.proofs.Filling.{one-filled, all-filled}
use Rattle.prism_corner_lanes.proofs.CornersMade.{logarithm-from}
use Rattle.prism_corner_lanes.proofs.Corners.logarithms.Goals as goal

pub loop-k-preserved : goal.loop-k-preserved
loop-k-preserved c = one-filled c.loop-k.invariant c.loop-k-test.true c.pick.ensures

pub returns : goal.returns
returns c =
    let o = all-filled c.loop-k.invariant c.loop-k-test.false in
    let a = c.arguments.ensures in
    record { size = o.size; at = λ k h. o.at k h ∙ logarithm-from _ _ _ _ _ _ (c.in_ok-w.ensures.at k h) (a.at k h) }
