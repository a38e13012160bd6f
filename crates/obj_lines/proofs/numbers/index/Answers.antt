-- `obj_lines::numbers::index` meets its contract. Assumes nothing.
use Rattle.std.proofs.Common.{refl, sym, ◌∙◌}
use Rattle.obj_lines.proofs.Read.{filled, plain_small, index_wrong, index_zeros, index_right}
use Rattle.obj_lines.proofs.numbers.index.Goals as goal

pub returns-in_err-whole : goal.returns-in_err-whole
returns-in_err-whole c = rw c.from_residual.ensures (index_wrong c.args.field.now c.in_err-whole.ensures)

pub returns-then-all_zeros : goal.returns-then-all_zeros
returns-then-all_zeros c = index_zeros c.args.field.now (sym c.all_zeros.ensures ∙ c.if-all_zeros.true)

pub invariant_of-result : goal.invariant_of-result
invariant_of-result c =
    let d = c.in_ok-whole.ensures in
    record { inside = filled c.args.field.now d.0; small = plain_small c.args.field.now c.in_ok-whole.whole d.0 d.1 }

pub returns : goal.returns
returns c =
    let d = c.in_ok-whole.ensures in
    index_right c.args.field.now _ d.0 (sym c.all_zeros.ensures ∙ c.if-all_zeros.false) d.1 refl
