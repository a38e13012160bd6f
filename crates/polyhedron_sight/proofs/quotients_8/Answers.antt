-- `polyhedron_sight::quotients_8` meets its contract. Assumes nothing.
use mathlib.Core.Path.{◌∙◌}
use Rattle.lanes.proofs.Filling.{one-filled}
use Rattle.polyhedron_sight.proofs.Terms.{triple-same, denominator-same}
use Rattle.polyhedron_sight.proofs.quotients_8.Goals as goal

pub loop-k-preserved : goal.loop-k-preserved
loop-k-preserved c =
    let i = c.loop-k.invariant in
    let h = c.loop-k-test.true in
    let ea = c.at-a.ensures in
    let eb = c.at-b.ensures in
    let ed = c.at-d.ensures in
    (one-filled i.0 h (c.triple_of.ensures ∙ triple-same ea eb ed), one-filled i.1 h (c.denominator_of.ensures ∙ denominator-same ea eb ed))
