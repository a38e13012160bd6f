-- `lanes_ln::ln` meets its contract. Assumes nothing.
use mathlib.Core.Path.{refl, ◌∙◌}
use Rattle.lanes.proofs.Filling.{one-filled, all-filled}
use Rattle.lanes_ln.proofs.LnLaw.{ln-lane, ln_parts}
use Rattle.lanes_ln.proofs.ln.Goals as goal

pub loop-k-preserved : goal.loop-k-preserved
loop-k-preserved g c = one-filled c.loop-k.invariant c.loop-k-test.true refl

pub returns : goal.returns
returns g c =
    let w = all-filled c.loop-k.invariant c.loop-k-test.false in
    let p = c.split.ensures in
    record { size = w.size; at = λ k l. w.at k l ∙ ln_parts _ _ (p.0.at k l) (p.1.at k l) (p.2.at k l) (c.rc.ensures.at k l) ∙ ln-lane _ (c.all_normal.ensures c.if-not-all_normal.false k l) }
