-- `obj_writer::lines::lines_size` meets its contract. Assumes nothing.
use Rattle.std.proofs.Common.{rules, ◌≡◌, ◌+◌, length, arith}
use Rattle.std.specs.List.{sum_by}
use Rattle.obj_writer.proofs.WrittenLines.{taken_high, lines_sum}
use Rattle.obj_writer.proofs.lines.lines_size.Goals as goal

pub overflow_add-result : goal.overflow_add-result
overflow_add-result g c =
    let h : c.sum.result ≡ sum_by (λ x. 1 + length (g.T.Field.text x)) c.args.numbers.now = search rules in
    omega (arith, h, taken_high 0 g.T.Field.text c.args.numbers.now g.met.T.Field.short, c.requires.few)

pub returns : goal.returns
returns g c =
    let h : c.sum.result ≡ sum_by (λ x. 1 + length (g.T.Field.text x)) c.args.numbers.now = search rules in
    λ letter. omega (arith, h, lines_sum letter g.T.Field.text c.args.numbers.now c.requires.triples)
