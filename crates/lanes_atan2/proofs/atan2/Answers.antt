-- `lanes_atan2::atan2` meets its contract. Assumes nothing.
use mathlib.Core.Path.{◌∙◌}
use lib.Ieee.{nan}
use lib.ListN.{get_or-replicate}
use Rattle.doubles.specs.Constants.{1·0}
use Rattle.lanes.proofs.Filling.{all-filled}
use Rattle.lanes_atan2.proofs.AtanLaw.{atan2-lane, atan2_parts}
use Rattle.lanes_atan2.proofs.atan2.Goals as goal

pub returns : goal.returns
returns g c =
    let o = all-filled c.loop-k.invariant c.loop-k-test.false in
    let z = c.in_ok-z.ensures in (
      record {
        size = o.size;
        at = λ k l. atan2_parts _ _ (z.0.at k l) (c.reduce.ensures.at k l) (get_or-replicate g.row.N k 1·0 nan l) (c.one_and_square.ensures.at k l) (c.rc.ensures.at k l) (o.at k l)
            ∙ atan2-lane _ _ (z.1 k l);
      },
      z.1,
    )
