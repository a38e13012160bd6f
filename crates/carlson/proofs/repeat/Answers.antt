-- `carlson::repeat` meets its contract. Assumes nothing.
use Rattle.std.proofs.Common.{arith}
use Rattle.carlson.specs.Rounds.Steps.{none}
use Rattle.carlson.proofs.RoundLoop.{of_count, stopped, one-round, all_made, one-step}
use Rattle.carlson.proofs.repeat.Goals as goal

pub loop-init : goal.loop-init
loop-init g c = record { within = omega arith; made = none; left = λ t h. of_count (omega arith) h }

pub returns-then-not-test : goal.returns-then-not-test
returns-then-not-test g c = c.loop.invariant.left _ (stopped c.test.ensures c.if-not-test.true)

pub loop-preserved : goal.loop-preserved
loop-preserved g c = record {
  within = omega arith;
  made = one-step (omega arith) c.loop.invariant.made c.step-s.ensures;
  left = λ t h. c.loop.invariant.left t (one-round (omega arith) c.test.ensures c.if-not-test.false c.step-s.ensures h);
}

pub returns : goal.returns
returns g c = c.loop.invariant.left _ (all_made (omega arith))
