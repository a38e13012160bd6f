-- `obj_reader::store::store` meets its contract. Assumes nothing.
use Rattle.std.proofs.Common.{◌≡◌, ◌<◌, ◌≤◌, ◌^◌, length, get_or, refl, subst, lit<, rules, arith}
use Rattle.std.proofs.lemmas.Iterator.Consumers.{YieldsList-turn, YieldsList-end}
use Rattle.std.proofs.lemmas.List.{length_push}
use Rattle.obj.specs.Text.{lines, fields}
use Rattle.obj.specs.Line.{Holds}
use Rattle.obj.specs.declared.Line.{Line}
use Rattle.obj_reader.proofs.Lines.{NextLine, all_lines, next_line, bad_line, none_refused}
use Rattle.obj_reader.proofs.Storing.{store_vertex, store_face, store_other, store_end, vertex_room, face_room, face_small}
use Rattle.obj_reader.proofs.store.store.Goals as goal
use Rattle.obj_reader.proofs.store.store.Goals.{In-Some, In-None, In-Vertex, In-Face, In_err-x}

-- the line that is next, and where none is
next : (c : In-Some) → (length c.loop-bytes.yielded < length (lines c.args.text.now)) × (c.in-Some.bytes.now ≡ get_or (lines c.args.text.now) (length c.loop-bytes.yielded) c.in-Some.bytes.now)
next c =
    let l = c.loop-bytes in
    let s = c.split-bytes-items.ensures in
    YieldsList-turn (all_lines _ c.args.text.now c.into_iter-bytes-iterator.ensures.into_iter_gives s.rest s.done (λ x b q k. search rules)) l.yielded _ l.yielded_by _ _ c.in-Some.bytes c.in-Some.is c.next.ensures.steps

end : (c : In-None) → length (lines c.args.text.now) ≤ length c.loop-bytes.yielded
end c =
    let l = c.loop-bytes in
    let s = c.split-bytes-items.ensures in
    let e = YieldsList-end (all_lines _ c.args.text.now c.into_iter-bytes-iterator.ensures.into_iter_gives s.rest s.done (λ x b q k. search rules)) l.yielded _ l.yielded_by _ _ c.in-None.is c.next.ensures.steps in
    omega (arith, e.1)

-- ---- a vertex

vertex : (c : In-Vertex) → NextLine (lines c.args.text.now) (length c.loop-bytes.yielded) (Line.Vertex c.in-Vertex.x c.in-Vertex.y c.in-Vertex.z)
vertex c =
    let v = c.in-Vertex in
    next_line (lines c.args.text.now) _ _ (next (goal.at.In-Vertex c).In-Some) _ (subst (Holds (fields c.in-Some.bytes.now)) v.is c.in_ok-x.ensures)

pub put-requires : goal.put-requires
put-requires c =
    let l = c.loop-bytes in
    let v = c.in-Vertex in
    (lit< tt, vertex_room c.args.text.now c.args.verts.now c.args.faces.now _ l.verts l.faces l.v l.f l.invariant v.x v.y v.z (vertex (goal.at.put-requires c).In-Vertex))

pub loop-bytes-preserved-in-Vertex : goal.loop-bytes-preserved-in-Vertex
loop-bytes-preserved-in-Vertex c =
    let l = c.loop-bytes in
    let v = c.in-Vertex in
    rw (length_push l.yielded c.in-Some.bytes, c.put.ensures)
    (store_vertex c.args.text.now c.args.verts.now c.args.faces.now _ l.verts l.faces l.v l.f l.invariant v.x v.y v.z (vertex (goal.at.loop-bytes-preserved-in-Vertex c).In-Vertex))

-- ---- a face

face : (c : In-Face) → NextLine (lines c.args.text.now) (length c.loop-bytes.yielded) (Line.Face c.in-Face.a c.in-Face.b c.in-Face.c)
face c =
    let f = c.in-Face in
    next_line (lines c.args.text.now) _ _ (next (goal.at.In-Face c).In-Some) _ (subst (Holds (fields c.in-Some.bytes.now)) f.is c.in_ok-x.ensures)

corners : (c : In-Face) → (c.in-Face.a < 2 ^ 32) × (c.in-Face.b < 2 ^ 32) × (c.in-Face.c < 2 ^ 32)
corners c =
    let l = c.loop-bytes in
    let f = c.in-Face in
    face_small c.args.text.now c.args.verts.now c.args.faces.now _ l.verts l.faces l.v l.f l.invariant f.a f.b f.c (face c) (2 ^ 32) c.requires.fits

pub overflow_cast-a : goal.overflow_cast-a
overflow_cast-a c = let s = corners (goal.at.overflow_cast-a c).In-Face in omega (arith, s.0)

pub overflow_cast-b : goal.overflow_cast-b
overflow_cast-b c = let s = corners (goal.at.overflow_cast-b c).In-Face in omega (arith, s.1)

pub overflow_cast-c : goal.overflow_cast-c
overflow_cast-c c = let s = corners (goal.at.overflow_cast-c c).In-Face in omega (arith, s.2)

pub put-requires-in-Face : goal.put-requires-in-Face
put-requires-in-Face c =
    let l = c.loop-bytes in
    let f = c.in-Face in
    (lit< tt, face_room c.args.text.now c.args.verts.now c.args.faces.now _ l.verts l.faces l.v l.f l.invariant f.a f.b f.c (face (goal.at.put-requires-in-Face c).In-Face))

pub loop-bytes-preserved-in-Face : goal.loop-bytes-preserved-in-Face
loop-bytes-preserved-in-Face c =
    let l = c.loop-bytes in
    let f = c.in-Face in
    rw (length_push l.yielded c.in-Some.bytes, c.put-in-Face.ensures)
    (store_face c.args.text.now c.args.verts.now c.args.faces.now _ l.verts l.faces l.v l.f l.invariant f.a f.b f.c (face (goal.at.loop-bytes-preserved-in-Face c).In-Face))

-- ---- another line

pub loop-bytes-preserved : goal.loop-bytes-preserved
loop-bytes-preserved c =
    let l = c.loop-bytes in
    let h = subst (Holds (fields c.in-Some.bytes.now)) c.in-Nothing.is c.in_ok-x.ensures in
    let n = next_line (lines c.args.text.now) _ _ (next (goal.at.loop-bytes-preserved c).In-Some) Line.Nothing h in
    rw (length_push l.yielded c.in-Some.bytes) (store_other c.args.text.now c.args.verts.now c.args.faces.now _ l.verts l.faces l.v l.f l.invariant Line.Nothing n refl refl)

-- ---- no line is refused

never : {P : Type 0} → In_err-x → P
never c =
    let b = bad_line (lines c.args.text.now) _ _ (next (goal.at.In_err-x c).In-Some) _ c.in_err-x.ensures in
    absurd (none_refused _ _ c.loop-bytes.invariant.free b)

pub returns-in_err-x-clause-answer : goal.returns-in_err-x-clause-answer
returns-in_err-x-clause-answer c = never (goal.at.returns-in_err-x-clause-answer c).In_err-x

pub returns-in_err-x-clause-verts : goal.returns-in_err-x-clause-verts
returns-in_err-x-clause-verts c = never (goal.at.returns-in_err-x-clause-verts c).In_err-x

pub returns-in_err-x-clause-faces : goal.returns-in_err-x-clause-faces
returns-in_err-x-clause-faces c = never (goal.at.returns-in_err-x-clause-faces c).In_err-x

-- ---- the end

pub returns-clause-verts : goal.returns-clause-verts
returns-clause-verts c = let l = c.loop-bytes in (store_end c.args.text.now c.args.verts.now c.args.faces.now _ l.verts l.faces l.v l.f l.invariant (end (goal.at.returns-clause-verts c).In-None)).0

pub returns-clause-faces : goal.returns-clause-faces
returns-clause-faces c = let l = c.loop-bytes in (store_end c.args.text.now c.args.verts.now c.args.faces.now _ l.verts l.faces l.v l.f l.invariant (end (goal.at.returns-clause-faces c).In-None)).1
