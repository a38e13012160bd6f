-- `lanes_atan2::reduce` meets its contract. Assumes nothing.
use mathlib.Core.Path.{ap, ◌∙◌}
use mathlib.Core.List.{List}
use lib.Ieee.{Float}
use lib.ListN.{length}
use Rattle.lanes.specs.Lanes.{lane}
use Rattle.lanes.proofs.Filling.{one-filled}
use Rattle.lanes_atan2.proofs.AtanLaw.{reduced-within, reduced-is}
use Rattle.lanes_atan2.proofs.reduce.Goals as goal

pub returns-then-all_within : goal.returns-then-all_within
returns-then-all_within g c =
    let p = c.requires in
    record { size = ap length p ∙ c.told-z; at = λ k l. ap (λ (v : List Float). lane v k) p ∙ reduced-within _ (c.all_within.ensures c.if-all_within.true k l) }

pub loop-k-preserved : goal.loop-k-preserved
loop-k-preserved g c = one-filled c.loop-k.invariant c.loop-k-test.true (c.pick.ensures ∙ reduced-is _ _ c.abs.ensures)
