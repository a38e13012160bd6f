-- The digits are those of `decimal`.
use Rattle.std.proofs.Common.{length, ap, ◌∙◌, arith, rules}
use Rattle.std.proofs.lemmas.List.Edits.{sets}
use Rattle.recheck_line.proofs.Text.{decimal-is, decimal-most}
use Rattle.recheck_line.proofs.put_decimal.Goals as goal

pub returns-clause-value : goal.returns-clause-value
returns-clause-value c =
    let digits = c.as_bytes-digits.ensures.value ∙ c.format.ensures.text ∙ decimal-is c.args.n (search rules) in
    let count = ap length digits in
    (count, omega (arith, count, decimal-most c.args.n))

pub returns-clause-out_after : goal.returns-clause-out_after
returns-clause-out_after c =
    let digits = c.as_bytes-digits.ensures.value ∙ c.format.ensures.text ∙ decimal-is c.args.n (search rules) in
    c.put.ensures ∙ ap (sets c.args.out.now c.args.at) digits
