-- `lanes_rc::rounds` meets its contract. Assumes nothing.
use native.Mathlib.Omega.{arith}
use Rattle.lanes_rc.proofs.AllLanes.{none_made, one_made, all_still}
use Rattle.lanes_rc.proofs.rounds.Goals as goal

pub returns-then-not-any_holds : goal.returns-then-not-any_holds
returns-then-not-any_holds g c = all_still (none_made c.told-x c.told-y c.told-a c.told-f) (c.any_holds.ensures c.if-not-any_holds.true)

pub loop-init : goal.loop-init
loop-init g c = none_made c.told-x c.told-y c.told-a c.told-f

pub returns-then-not-any_holds-2 : goal.returns-then-not-any_holds-2
returns-then-not-any_holds-2 g c = all_still (one_made c.loop.invariant (omega arith) c.round.ensures) (c.any_holds-in-loop.ensures c.if-not-any_holds-2.true)

pub loop-preserved : goal.loop-preserved
loop-preserved g c = one_made c.loop.invariant (omega arith) c.round.ensures
