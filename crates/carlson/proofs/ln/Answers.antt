-- `carlson::ln` meets its contract. Assumes nothing.
use Rattle.carlson.proofs.LnCases.{ln-zero, ln-positive, ln-below, ln-other}
use Rattle.carlson.specs.Rc.{rc_value}
use Rattle.carlson.specs.Logarithm.{ln}
use Rattle.carlson.proofs.ln.Goals as goal

pub returns-then-x : goal.returns-then-x
unfolding ln
returns-then-x c = ln-zero rc_value _ c.if-x.true

pub ln_above-requires : goal.ln_above-requires
ln_above-requires c = ln-positive _ c.if-x-2.true c.if-x-3.true

pub returns-then-x-2 : goal.returns-then-x-2
unfolding ln
returns-then-x-2 c = ln-below rc_value _ c.if-x.false c.if-x-2.true c.if-x-3.false

pub returns : goal.returns
unfolding ln
returns c = ln-other rc_value _ c.if-x-2.false
