-- A mesh written and read is the same mesh, −0 included. States:
-- `read_back`: the text of a mesh that `write_obj` does not refuse is right, and what it gives is the mesh, bit for bit;
-- `written_and_read`: where `write_obj` gives the text, `read_obj` of it, for lists that are long enough, gives V and F, and lists that begin with the mesh and are as they were past it.
-- Assumes nothing.
use Rattle.std.specs.Prelude.{◌≡◌, true, List, ◌++◌, ℕ, ◌%◌, ◌≤◌, ◌<◌, T, length, get_or, drop, Float}
use Rattle.std.proofs.Common.{arith, le-leb}
use Rattle.std.specs.Float.{nan, binary64}
use Rattle.std.specs.Float.Ieee.{fits}
use Rattle.refusals.specs.declared.Refusal.TheVariants.{OutOfLimits}
use Rattle.std.specs.Prelude.{Ok}
use Rattle.refusals.specs.Causes.{or_else}
use Rattle.refusals.proofs.Causes.{both}
use Rattle.mesh.specs.Surface.{vertex_count, face_count}
use Rattle.mesh.specs.Check.{malformed, too_many, no_such_vertex}
use Rattle.mesh.specs.CauseLaws.{none-malformed, none-many, none-vertex, none_each, limits_none}
use Rattle.obj.specs.Reader.{text_cause, vertices_of, faces_of, lists_too_short, read_cause, reader_cause, read_obj, list_after}
use Rattle.obj.specs.Whole.{is_whole}
use Rattle.obj.specs.Writer.{max_coordinate, not_whole, text_too_short, given_cause, writer_cause, text_of}
use Rattle.obj_round_trip.specs.Wholes.{whole_within}
use Rattle.obj_round_trip.specs.Numbers.{coordinate_written, corner_written}
use Rattle.obj_round_trip.specs.WrittenText.{AllNumbers, AllCorners, text_right, text_vertices, text_faces}

-- ---- the statements

-- every entry is a double, as each f64 of a slice is
abbrev pub Doubles : List Float → Type 0
Doubles v = (i : ℕ) → i < length v → T (fits binary64 (get_or v i nan))

-- the mesh's text is right and gives the mesh
pub record ReadsBack (v : List Float) (f : List ℕ) : Type 0 where
  pub right : text_cause (text_of v f) ≡ Ok tt
  pub vertices : vertices_of (text_of v f) ≡ v
  pub faces : faces_of (text_of v f) ≡ f

-- what `read_obj` gives for the mesh's text and for lent lists that were v₀ and f₀
pub record ReadAgain (v : List Float) (f : List ℕ) (v₀ : List Float) (f₀ : List ℕ) : Type 0 where
  pub counts : read_obj (text_of v f) (length v₀) (length f₀) ≡ Ok (record { vertices = vertex_count v; faces = face_count f })
  pub vertices : list_after (reader_cause (text_of v f) (length v₀) (length f₀)) (vertices_of (text_of v f)) v₀ ≡ v ++ drop (length v) v₀
  pub faces : list_after (reader_cause (text_of v f) (length v₀) (length f₀)) (faces_of (text_of v f)) f₀ ≡ f ++ drop (length f) f₀

-- ---- what the writer does not refuse

record Given (v : List Float) (f : List ℕ) : Type 0 where
  pub triples : (length v % 3 ≡ 0) × (length f % 3 ≡ 0)
  pub not_many : too_many v f ≡ Ok tt
  pub wholes : (i : ℕ) → i < length v → is_whole max_coordinate (get_or v i nan) ≡ true
  pub named : no_such_vertex (vertex_count v) f ≡ Ok tt

given : (v : List Float) (f : List ℕ) → given_cause v f ≡ Ok tt → Given v f
unfolding given_cause not_whole
given v f e =
    let a = both (malformed v f) (or_else (too_many v f) (or_else (not_whole v) (no_such_vertex (vertex_count v) f))) e in
    let b = both (too_many v f) (or_else (not_whole v) (no_such_vertex (vertex_count v) f)) a.1 in
    let c = both (not_whole v) (no_such_vertex (vertex_count v) f) b.1 in
    record {
      triples = none-malformed v f a.0;
      not_many = b.0;
      wholes = none_each (length v) (λ i. is_whole max_coordinate (get_or v i nan)) (λ i. OutOfLimits) c.0;
      named = c.1;
    }

-- a vertex number is below 20,000
corners_written : (v : List Float) (f : List ℕ) → Given v f → AllCorners f
corners_written v f g i l =
    corner_written (get_or f i 0) (let b : get_or f i 0 < vertex_count v = none-vertex v f g.named i l in omega (arith, (none-many v f g.not_many).0))

-- ---- the laws

pub read_back : (v : List Float) (f : List ℕ) → Doubles v → given_cause v f ≡ Ok tt → ReadsBack v f
read_back v f d e =
    let g = given v f e in
    let a : AllNumbers v = λ i l. coordinate_written (get_or v i nan) (d i l) (g.wholes i l) in
    let b : AllCorners f = corners_written v f g in
    record { right = text_right v f a b; vertices = text_vertices v f a b g.triples.0; faces = text_faces v f a b g.triples.1 }

not_refused : (v : List Float) (f : List ℕ) (n m : ℕ) → Given v f → length v ≤ n → length f ≤ m → read_cause v f n m ≡ Ok tt
unfolding read_cause lists_too_short
not_refused v f n m g p q =
    rw (g.not_many, le-leb (length v) n p, le-leb (length f) m q, limits_none v f (λ i l. whole_within (get_or v i nan) (g.wholes i l))) g.named

pub written_and_read : (v : List Float) (f : List ℕ) (n : ℕ) → Doubles v → writer_cause v f n ≡ Ok tt
    → (v₀ : List Float) (f₀ : List ℕ) → length v ≤ length v₀ → length f ≤ length f₀ → ReadAgain v f v₀ f₀
unfolding writer_cause reader_cause read_obj
written_and_read v f n d e v₀ f₀ p q =
    let h = (both (given_cause v f) (text_too_short v f n) e).0 in
    let r = read_back v f d h in
    let c : reader_cause (text_of v f) (length v₀) (length f₀) ≡ Ok tt = rw (r.right, r.vertices, r.faces) (not_refused v f (length v₀) (length f₀) (given v f h) p q) in
    record { counts = rw (c, r.vertices, r.faces); vertices = rw (c, r.vertices); faces = rw (c, r.faces) }
