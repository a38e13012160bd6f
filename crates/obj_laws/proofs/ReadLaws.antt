-- It reads exactly when. States: `reads_exactly`: `read_obj` has no cause of refusal exactly where each of its causes is denied by itself, as `Readable` has it;
-- `answer_counts`: it then answers V and F, how many lines are vertices and how many faces. Assumes nothing.
use Rattle.std.specs.Prelude.{◌≡◌, List, [], ◌↔◌, ℕ, ◌≤◌, length, get_or, Float, Ok}
use Rattle.std.proofs.Common.{arith, le-leb}
use Rattle.std.specs.Float.{nan}
use Rattle.refusals.specs.declared.Refusal.TheVariants.{TooShort}
use Rattle.refusals.specs.Causes.{or_else}
use Rattle.refusals.proofs.Causes.{both, holds}
use Rattle.lists.proofs.Numbers.{both_within}
use Rattle.mesh.specs.Check.{too_many, out_of_limits, no_such_vertex}
use Rattle.mesh.specs.Surface.{vertex_count, face_count}
use Rattle.mesh.specs.CauseLaws.{none-many, many-none, none_limits, limits_none, none-vertex, vertex-none}
use Rattle.obj.specs.Text.{lines}
use Rattle.obj.specs.Reader.{text_cause, vertices_of, faces_of, lists_too_short, read_cause, reader_cause, read_obj}
use Rattle.obj_laws.specs.Readable.{vertex_lines, face_lines, Readable}
use Rattle.obj_laws.proofs.FirstLine.{line_free, text_free}
use Rattle.obj_laws.proofs.Magnitudes.{is_within_limits}
use Rattle.obj_laws.proofs.LineCounts.{counts_are_lines}

-- ---- 12

module _ (v : List Float) (f : List ℕ) (n m : ℕ) where
  none_lists : lists_too_short v f n m ≡ Ok tt → (length v ≤ n) × (length f ≤ m)
  unfolding lists_too_short
  none_lists e = both_within (length v) (length f) n m (holds _ TooShort e)

  lists_none : length v ≤ n → length f ≤ m → lists_too_short v f n m ≡ Ok tt
  unfolding lists_too_short
  lists_none p q = rw (le-leb (length v) n p, le-leb (length f) m q)

-- ---- all of them

module _ (t : List ℕ) (n m : ℕ) where
  abbrev v : List Float
  v = vertices_of t

  abbrev f : List ℕ
  f = faces_of t

  -- V and F as the lists' counts
  vertices_are : text_cause t ≡ Ok tt → vertex_count v ≡ vertex_lines t
  vertices_are e = let c = (counts_are_lines t e).0 in omega arith

  faces_are : text_cause t ≡ Ok tt → face_count f ≡ face_lines t
  faces_are e = let c = (counts_are_lines t e).1 in omega arith

  none_readable : reader_cause t n m ≡ Ok tt → Readable t n m
  unfolding reader_cause read_cause
  none_readable e =
      let vertex = no_such_vertex (vertex_count v) f in
      let a = both (text_cause t) (or_else (too_many v f) (or_else (lists_too_short v f n m) (or_else (out_of_limits v) vertex))) e in
      let b = both (too_many v f) (or_else (lists_too_short v f n m) (or_else (out_of_limits v) vertex)) a.1 in
      let c = both (lists_too_short v f n m) (or_else (out_of_limits v) vertex) b.1 in
      let d = both (out_of_limits v) vertex c.1 in
      let few = none-many v f b.0 in
      let room = none_lists v f n m c.0 in
      let lengths = counts_are_lines t a.0 in
      record {
        right = λ i l. ((line_free (get_or (lines t) i [])).0 ((text_free t).0 a.0 i l)).0;
        digits = λ i l. ((line_free (get_or (lines t) i [])).0 ((text_free t).0 a.0 i l)).1;
        vertices = omega (arith, few.0, vertices_are a.0);
        faces = omega (arith, few.1, faces_are a.0);
        room_vertices = omega (arith, room.0, lengths.0);
        room_faces = omega (arith, room.1, lengths.1);
        values = λ i l. (is_within_limits (get_or v i nan)).0 (none_limits v f d.0 i l);
        indices = λ i l. omega (arith, none-vertex v f d.1 i l, vertices_are a.0);
      }

  readable_text : Readable t n m → text_cause t ≡ Ok tt
  readable_text h = (text_free t).1 (λ i l. (line_free (get_or (lines t) i [])).1 (h.right i l, h.digits i l))

  readable_none : Readable t n m → reader_cause t n m ≡ Ok tt
  unfolding reader_cause read_cause
  readable_none h =
      let a = readable_text h in
      let lengths = counts_are_lines t a in
      let b = many-none v f (omega (arith, h.vertices, vertices_are a)) (omega (arith, h.faces, faces_are a)) in
      let c = lists_none v f n m (omega (arith, h.room_vertices, lengths.0)) (omega (arith, h.room_faces, lengths.1)) in
      let d = limits_none v f (λ i l. (is_within_limits (get_or v i nan)).1 (h.values i l)) in
      rw (a, b, c, d) (vertex-none v f (λ i l. omega (arith, h.indices i l, vertices_are a)))

  pub reads_exactly : (reader_cause t n m ≡ Ok tt) ↔ Readable t n m
  reads_exactly = (none_readable, readable_none)

  pub answer_counts : Readable t n m → read_obj t n m ≡ Ok (record { vertices = vertex_lines t; faces = face_lines t })
  unfolding read_obj
  answer_counts h = rw (readable_none h, vertices_are (readable_text h), faces_are (readable_text h))
