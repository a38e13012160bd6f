-- `lanes_atan::reduce` meets its contract. Assumes nothing.
use mathlib.Core.Path.{ap, ◌∙◌}
use lib.Ieee.{Float}
use Rattle.doubles.specs.Rounded.{◌⊕◌, ◌⊗◌}
use Rattle.doubles.specs.Constants.{1·0}
use Rattle.lanes.proofs.Filling.{one-filled}
use Rattle.lanes_atan2.proofs.AtanLaw.{reduced-is}
use Rattle.lanes_atan.proofs.reduce.Goals as goal

pub loop-k-preserved : goal.loop-k-preserved
loop-k-preserved g c =
    let l = c.loop-k-test.true in
    let i = c.loop-k.invariant in
    let e = c.pick-wk.ensures ∙ reduced-is _ _ c.abs.ensures in
    (one-filled i.0 l e, one-filled i.1 l (ap (λ (w : Float). 1·0 ⊕ w ⊗ w) e))
