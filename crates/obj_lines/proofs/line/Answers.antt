-- `obj_lines::line` meets its contract. Assumes nothing.
use Rattle.obj.specs.Text.{letter_v, letter_f}
use Rattle.obj_lines.proofs.Whole.{blank, comment, long, another, says_letter}
use Rattle.obj_lines.proofs.line.Goals as goal

pub returns-in_default : goal.returns-in_default
returns-in_default c = blank _ c.in_default.ensures

pub returns-then-letter-eq35 : goal.returns-then-letter-eq35
returns-then-letter-eq35 c = let f = c.in-Some in comment c.args.text.now f.first.now f.rest.now f.ensures c.if-letter-eq35.true

pub returns-then-first-gt1 : goal.returns-then-first-gt1
returns-then-first-gt1 c = let f = c.in-Some in long c.args.text.now f.first.now f.rest.now f.ensures c.if-letter-eq35.false c.if-first-gt1.true

pub returns-then-letter-eq118 : goal.returns-then-letter-eq118
returns-then-letter-eq118 c =
    let f = c.in-Some in
    says_letter c.args.text.now f.first.now f.rest.now f.ensures letter_v c.vertex.result c.if-letter-eq118.true c.if-first-gt1.false c.vertex.ensures

pub returns-then-letter-eq102 : goal.returns-then-letter-eq102
returns-then-letter-eq102 c =
    let f = c.in-Some in
    says_letter c.args.text.now f.first.now f.rest.now f.ensures letter_f c.face.result c.if-letter-eq102.true c.if-first-gt1.false c.face.ensures

pub returns : goal.returns
returns c =
    let f = c.in-Some in
    another c.args.text.now f.first.now f.rest.now f.ensures c.if-letter-eq35.false c.if-letter-eq118.false c.if-letter-eq102.false c.if-first-gt1.false
