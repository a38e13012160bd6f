-- `obj_reader::survey::no_such_vertex` meets its contract. Assumes nothing.
use Rattle.std.proofs.Common.{◌≡◌, ◌<◌, ◌≤◌, length, get_or, subst, rules, arith}
use Rattle.std.proofs.lemmas.Iterator.Consumers.{YieldsList-turn, YieldsList-end}
use Rattle.std.proofs.lemmas.List.{length_push}
use Rattle.obj.specs.Text.{lines, fields}
use Rattle.obj.specs.Line.{Holds}
use Rattle.obj.specs.declared.Line.{Line}
use Rattle.obj_reader.proofs.Lines.{NextLine, all_lines, next_line, bad_line, none_refused, no_corners}
use Rattle.obj_reader.proofs.Naming.{names_start, names_refused, names_face, names_other, names_end, room}
use Rattle.obj_reader.proofs.survey.no_such_vertex.Goals as goal
use Rattle.obj_reader.proofs.survey.no_such_vertex.Goals.{In-Some, In-None, In-Face}

-- the line that is next, and where none is
next : (c : In-Some) → (length c.loop-bytes.yielded < length (lines c.args.text.now)) × (c.in-Some.bytes.now ≡ get_or (lines c.args.text.now) (length c.loop-bytes.yielded) c.in-Some.bytes.now)
next c =
    let l = c.loop-bytes in
    let s = c.split-bytes-items.ensures in
    YieldsList-turn (all_lines _ c.args.text.now c.into_iter-bytes-iterator.ensures.into_iter_gives s.rest s.done (λ x b q k. search rules)) l.yielded _ l.yielded_by _ _ c.in-Some.bytes c.in-Some.is c.next.ensures.steps

end : (c : In-None) → length (lines c.args.text.now) ≤ length c.loop-bytes.yielded
end c =
    let l = c.loop-bytes in
    let s = c.split-bytes-items.ensures in
    let e = YieldsList-end (all_lines _ c.args.text.now c.into_iter-bytes-iterator.ensures.into_iter_gives s.rest s.done (λ x b q k. search rules)) l.yielded _ l.yielded_by _ _ c.in-None.is c.next.ensures.steps in
    omega (arith, e.1)

pub loop-bytes-init : goal.loop-bytes-init
loop-bytes-init c = names_start c.args.vertices c.args.text.now c.requires.right

pub returns-in_err-a : goal.returns-in_err-a
returns-in_err-a c =
    let b = bad_line (lines c.args.text.now) _ _ (next (goal.at.returns-in_err-a c).In-Some) _ c.in_err-a.ensures in
    absurd (none_refused _ _ c.loop-bytes.invariant.free b)

-- what the face at hand adds
face : (c : In-Face) → NextLine (lines c.args.text.now) (length c.loop-bytes.yielded) (Line.Face c.in-Face.a c.in-Face.b c.in-Face.c)
face c = next_line (lines c.args.text.now) _ _ (next (goal.at.In-Face c).In-Some) _ (subst (Holds (fields c.in-Some.bytes.now)) c.in-Face.is c.in_ok-a.ensures)

pub returns-then-vertices-max : goal.returns-then-vertices-max
returns-then-vertices-max c =
    let f = c.in-Face in
    names_refused c.args.vertices c.args.text.now _ c.loop-bytes.k c.loop-bytes.invariant f.a f.b f.c (face (goal.at.returns-then-vertices-max c).In-Face) (omega arith)

pub loop-bytes-preserved-in-Face : goal.loop-bytes-preserved-in-Face
loop-bytes-preserved-in-Face c =
    let l = c.loop-bytes in
    let f = c.in-Face in
    rw (length_push l.yielded c.in-Some.bytes)
    (names_face c.args.vertices c.args.text.now _ l.k l.invariant f.a f.b f.c (face (goal.at.loop-bytes-preserved-in-Face c).In-Face) (omega arith) (omega arith) (omega arith))

pub loop-bytes-preserved : goal.loop-bytes-preserved
loop-bytes-preserved c =
    let l = c.loop-bytes in
    let n = next_line (lines c.args.text.now) _ _ (next (goal.at.loop-bytes-preserved c).In-Some) c.in_ok-a.field-0 c.in_ok-a.ensures in
    rw (length_push l.yielded c.in-Some.bytes) (names_other c.args.vertices c.args.text.now _ l.k l.invariant c.in_ok-a.field-0 n (no_corners c.in_ok-a.field-0 c.in_default.not-Face))

pub overflow_add-k : goal.overflow_add-k
overflow_add-k c =
    let f = c.in-Face in
    let r = room c.args.vertices c.args.text.now _ c.loop-bytes.k c.loop-bytes.invariant f.a f.b f.c (face (goal.at.overflow_add-k c).In-Face) in
    omega (arith, r, c.requires.few)

pub returns : goal.returns
returns c = names_end c.args.vertices c.args.text.now _ c.loop-bytes.k c.loop-bytes.invariant (end (goal.at.returns c).In-None)
