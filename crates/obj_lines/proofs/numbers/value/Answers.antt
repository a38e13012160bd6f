-- `obj_lines::numbers::value` meets its contract. Assumes nothing.
use Rattle.std.proofs.Common.{arith}
use Rattle.obj.specs.Decimal.{decimal}
use Rattle.obj_lines.proofs.Values.{value_is}
use Rattle.obj_lines.proofs.numbers.value.Goals as goal

pub returns-then-n : goal.returns-then-n
unfolding decimal
returns-then-n c s h = rw (value_is s c.args.n h c.requires, c.if-n.true, c.power.ensures.value (omega arith))

pub returns-else-n : goal.returns-else-n
unfolding decimal
returns-else-n c s h = rw (value_is s c.args.n h c.requires, c.if-n.false, c.power.ensures.value (omega arith))
