-- `obj_reader::survey::survey` meets its contract. Assumes nothing.
use Rattle.std.proofs.Common.{◌≡◌, ◌<◌, ◌≤◌, length, get_or, ◌∙◌, rules, arith}
use Rattle.std.proofs.lemmas.Iterator.Consumers.{YieldsList-turn, YieldsList-end}
use Rattle.std.proofs.lemmas.List.{length_push}
use Rattle.std.proofs.lemmas.Result.{err_from_is_err_and}
use Rattle.obj.specs.Text.{lines}
use Rattle.obj_reader.proofs.Lines.{all_lines, next_line, bad_line}
use Rattle.obj_reader.proofs.Surveying.{survey_next, survey_end}
use Rattle.obj_reader.proofs.survey.survey.Goals as goal
use Rattle.obj_reader.proofs.survey.survey.Goals.{In-Some, In-None}

-- the line that is next, and where none is
next : (c : In-Some) → (length c.loop-bytes.yielded < length (lines c.args.text.now)) × (c.in-Some.bytes.now ≡ get_or (lines c.args.text.now) (length c.loop-bytes.yielded) c.in-Some.bytes.now)
next c =
    let l = c.loop-bytes in
    let s = c.split-bytes-items.ensures in
    YieldsList-turn (all_lines _ c.args.text.now c.into_iter-bytes-iterator.ensures.into_iter_gives s.rest s.done (λ x b q k. search rules)) l.yielded _ l.yielded_by _ _ c.in-Some.bytes c.in-Some.is c.next.ensures.steps

end : (c : In-None) → length (lines c.args.text.now) ≤ length c.loop-bytes.yielded
end c =
    let l = c.loop-bytes in
    let s = c.split-bytes-items.ensures in
    let e = YieldsList-end (all_lines _ c.args.text.now c.into_iter-bytes-iterator.ensures.into_iter_gives s.rest s.done (λ x b q k. search rules)) l.yielded _ l.yielded_by _ _ c.in-None.is c.next.ensures.steps in
    omega (arith, e.1)

pub returns-in_err-line : goal.returns-in_err-line
returns-in_err-line c =
    let p = err_from_is_err_and c.from_residual.result c.from_residual.ensures.1 in
    rw (p.1, p.2) (c.loop-bytes.invariant.cause ∙ bad_line (lines c.args.text.now) _ _ (next (goal.at.returns-in_err-line c).In-Some) _ c.in_err-line.ensures)

pub loop-bytes-preserved : goal.loop-bytes-preserved
loop-bytes-preserved c =
    let l = c.loop-bytes in
    let n = next_line (lines c.args.text.now) _ _ (next (goal.at.loop-bytes-preserved c).In-Some) c.in_ok-line.field-0 c.in_ok-line.ensures in
    rw (length_push l.yielded c.in-Some.bytes) (survey_next c.args.text.now _ l.found c.with_line-found.result c.in_ok-line.field-0 l.invariant n c.with_line-found.ensures)

pub returns : goal.returns
returns c = survey_end c.args.text.now _ c.loop-bytes.found c.loop-bytes.invariant (end (goal.at.returns c).In-None)
