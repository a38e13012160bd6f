-- `lanes_rc::round` meets its contract. Assumes nothing.
use Prim.Native.Nat.{◌<◌}
use native.Mathlib.Nat.{le_refl}
use Rattle.lanes.proofs.Filling.{one-filled}
use Rattle.lanes_rc.specs.LaneRounds.{start}
use Rattle.lanes_rc.proofs.OneLane.{Reads, round_x, round_y, round_a, round_f}
use Rattle.lanes_rc.proofs.round.Goals as goal

pub loop-k-preserved : goal.loop-k-preserved
loop-k-preserved g c =
    let k = c.loop-k.k in
    let i = c.loop-k.invariant in
    let l : k < g.row.N = c.loop-k-test.true in
    let s = c.args in
    let w : Reads _ (start s.x.now s.y.now s.a.now s.f.now k) _ _ _ _ _ _ = record {
      x_is = i.0.rest k (le_refl k);
      y_is = i.1.rest k (le_refl k);
      a_is = i.2.rest k (le_refl k);
      f_is = i.3.rest k (le_refl k);
      l_is = c.lambda_if-lambda.ensures;
      t_is = c.loop_test-t.ensures;
    } in (
      one-filled i.0 l (round_x w c.quarter.ensures c.pick.ensures),
      one-filled i.1 l (round_y w c.quarter-in-loop-k.ensures c.pick-in-loop-k.ensures),
      one-filled i.2 l (round_a w c.quarter-in-loop-k-2.ensures c.pick-in-loop-k-2.ensures),
      one-filled i.3 l (round_f w c.quarter-in-loop-k-3.ensures c.pick-in-loop-k-3.ensures),
    )
