-- `obj_lines::numbers::number` meets its contract. Assumes nothing.
use Rattle.std.proofs.Common.{ne_eqb}
use Rattle.obj_lines.proofs.Read.{empty_number, with_minus, without_minus}
use Rattle.obj_lines.proofs.numbers.number.Goals as goal

pub returns-in_err-first : goal.returns-in_err-first
returns-in_err-first c = rw c.from_residual.ensures (empty_number c.args.field.now c.in_err-first.ensures.cases)

pub returns-then-first-eq45 : goal.returns-then-first-eq45
returns-then-first-eq45 c =
    let f = c.in_ok-first in
    with_minus c.args.field.now f.rest.now f.first.now c.unsigned.result f.ensures.cases.0 c.if-first-eq45.true c.unsigned.ensures

pub returns : goal.returns
returns c =
    let f = c.in_ok-first in
    without_minus c.args.field.now f.rest.now f.first.now c.unsigned-2.result f.ensures.cases.0 (ne_eqb f.first.now 45 c.if-first-eq45.false) c.unsigned-2.ensures
