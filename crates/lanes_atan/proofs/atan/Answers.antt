-- `lanes_atan::atan` meets its contract. Assumes nothing.
use lib.Ieee.{nan}
use lib.ListN.{get_or-replicate}
use Rattle.doubles.specs.Constants.{1·0}
use Rattle.lanes.proofs.Filling.{all-filled}
use Rattle.lanes_atan.proofs.AtanLaw.{atan_parts}
use Rattle.lanes_atan.proofs.atan.Goals as goal

pub returns : goal.returns
returns g c =
    let o = all-filled c.loop-k.invariant c.loop-k-test.false in
    let p = c.reduce.ensures in
    record {
      size = o.size;
      at = λ k l. atan_parts _ (p.0.at k l) (get_or-replicate g.row.N k 1·0 nan l) (p.1.at k l) (c.rc.ensures.at k l) (o.at k l);
    }
