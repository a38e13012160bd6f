-- `polyhedron_sight::angles_8` meets its contract. Assumes nothing.
use mathlib.Core.Path.{◌∙◌}
use Rattle.lanes.proofs.Filling.{all-filled}
use Rattle.polyhedron_sight.proofs.Terms.{angle_parts}
use Rattle.polyhedron_sight.proofs.angles_8.Goals as goal

pub returns : goal.returns
returns c =
    λ n.
    let w = all-filled c.loop-ak.invariant c.loop-ak-test.false in
    let q = c.quotients_8.ensures in
    let p = c.in_ok-a.ensures in
    record {
      size = w.size;
      at = λ k h. w.at k h ∙ angle_parts (n k) _ _ _ (q.lanes.at k h) (q.lanes_2.at k h) (p.0.at k h) (p.1 k h).s_is;
    }
