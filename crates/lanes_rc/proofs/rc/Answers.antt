-- `lanes_rc::rc` meets its contract. Assumes nothing.
use lib.Ieee.{nan}
use lib.ListN.{replicate, get_or-replicate}
use Rattle.doubles.specs.Constants.{1·0}
use Rattle.lanes_rc.proofs.AllLanes.{all-numbers}
use Rattle.lanes_rc.proofs.rc.Goals as goal

pub returns : goal.returns
returns g c =
    let s = c.args in
    all-numbers s.x.now s.y.now (replicate g.row.N 1·0) (λ k l. get_or-replicate g.row.N k 1·0 nan l) c.starts.ensures.0 c.starts.ensures.1 c.rounds.ensures c.endings.ensures
