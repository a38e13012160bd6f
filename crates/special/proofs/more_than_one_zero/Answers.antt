-- `special::more_than_one_zero` meets its contract. Assumes nothing.
use Rattle.special.specs.Domain.{more_than_one_zero}
use Rattle.special.proofs.more_than_one_zero.Goals as goal

pub returns-then-x : goal.returns-then-x
unfolding more_than_one_zero
returns-then-x c = simp c.if-x.true

pub returns-else-x : goal.returns-else-x
unfolding more_than_one_zero
returns-else-x c = simp c.if-x.false
