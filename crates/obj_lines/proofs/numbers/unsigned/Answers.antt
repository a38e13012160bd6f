-- `obj_lines::numbers::unsigned` meets its contract. Assumes nothing.
use Rattle.std.proofs.Common.{refl, arith}
use Rattle.obj_lines.proofs.Read.{filled, plain_small, plain_wrong, plain_right, front_wrong, back_wrong, parted_small, parted_right}
use Rattle.obj_lines.proofs.numbers.unsigned.Goals as goal

pub returns-in_err-whole : goal.returns-in_err-whole
returns-in_err-whole c = rw c.from_residual.ensures (plain_wrong c.args.text.now c.in_default.ensures c.in_err-whole.ensures)

pub invariant_of-result : goal.invariant_of-result
invariant_of-result c =
    let d = c.in_ok-whole.ensures in
    record { inside = filled c.args.text.now d.0; small = plain_small c.args.text.now c.in_ok-whole.whole d.0 d.1 }

pub returns-in_default : goal.returns-in_default
returns-in_default c =
    let d = c.in_ok-whole.ensures in
    (plain_right c.args.text.now c.in_default.ensures _ d.0 d.1 refl refl, refl)

pub returns-in_err-before : goal.returns-in_err-before
returns-in_err-before c =
    let a = c.in-Some in
    rw c.from_residual-in_err-before.ensures (front_wrong c.args.text.now a.front.now a.back.now a.ensures c.in_err-before.ensures)

pub returns-in_err-all : goal.returns-in_err-all
returns-in_err-all c =
    let a = c.in-Some in
    rw c.from_residual-in_err-all.ensures (back_wrong c.args.text.now a.front.now a.back.now a.ensures c.in_err-all.ensures)

pub invariant_of-result-2 : goal.invariant_of-result-2
invariant_of-result-2 c =
    let a = c.in-Some in
    let d = c.in_ok-before.ensures in
    let e = c.in_ok-all.ensures in
    record {
      inside = omega (arith, filled a.front.now d.0);
      small = parted_small c.args.text.now a.front.now a.back.now a.ensures c.in_ok-before.before c.in_ok-all.all d.0 e.0 d.1 e.1;
    }

pub returns : goal.returns
returns c =
    let a = c.in-Some in
    let d = c.in_ok-before.ensures in
    let e = c.in_ok-all.ensures in
    (parted_right c.args.text.now a.front.now a.back.now a.ensures _ c.in_ok-before.before d.0 e.0 d.1 e.1 refl refl, refl)
