-- States: `causes_in_order`: `mesh_cause` is the first of the nine causes in document 01's order; and of each cause 1, 2, 12, 3, 4, 7 and 8 where it does not hold, as a plain statement,
-- both ways (`none-malformed` and `malformed-none`, ..). `is_body`, `none_each` and `each_none` serve other laws. Assumes nothing.
use Rattle.std.specs.Prelude.{◌≡◌, refl, Bool, true, false, ◌&&◌, List, [], ◌∷◌, ℕ, ◌/◌, ◌%◌, ◌≤◌, ◌<◌, length, get_or, Float}
use Rattle.std.proofs.Math.Path.{ap, ap₂}
use Rattle.std.proofs.Common.{◌∙◌, arith}
use Rattle.std.proofs.Math.Bool.{not}
use Rattle.std.proofs.Math.Dec.{eqb, leb}
use Rattle.std.specs.Float.Ieee.{lt}
use borrow.Author.Tests.{eq-eqb, eqb-true, le-leb, leb-true, lt-ltb, ltb-true, not-true}
use Rattle.doubles.specs.Constants.{0·0}
use Rattle.refusals.specs.declared.Refusal.{Refusal}
use Rattle.refusals.specs.declared.Refusal.TheVariants.{Malformed, TooMany, TooShort, OutOfLimits, NoSuchVertex, Degenerate, Inverted}
use Rattle.std.specs.Prelude.{Ok, Err}
use Rattle.refusals.specs.Causes.{Cause}
use Rattle.refusals.specs.Causes.{or_else, unless, first_of}
use Rattle.refusals.proofs.Causes.{holds, passes, each, from_each}
use Rattle.refusals.proofs.Causes as causes
use Rattle.lists.specs.Count.{Below}
use Rattle.lists.proofs.Numbers.{both}
use Rattle.mesh_orders.specs.Edges.{max_vertices, max_faces}
use Rattle.mesh.specs.Surface.{vertex_count, face_count, Body, normal, is_zero, volume}
use Rattle.mesh.specs.Accepted.{Counted}
use Rattle.mesh.specs.Check.{malformed, too_many, too_short, in_limits, out_of_limits, names_vertex, no_such_vertex, has_normal, degenerate_face, inverted, mesh_causes, mesh_cause, count_cause, surface_cause, order_cause, faces_cause}

-- ---- the order

-- the first cause of a list
abbrev pub first_cause : List Cause → Cause
first_cause [] = Ok tt
first_cause (c ∷ cs) = or_else c (first_cause cs)

or-none : (c : Cause) → or_else c (Ok tt) ≡ c
or-none (Ok _) = refl
or-none (Err r) = refl

or_assoc : (c d e : Cause) → or_else (or_else c d) e ≡ or_else c (or_else d e)
or_assoc (Ok _) d e = refl
or_assoc (Err r) d e = refl

pub causes_in_order : (v : List Float) (f : List ℕ) (n : ℕ) → mesh_cause v f n ≡ first_cause (mesh_causes v f n)
unfolding mesh_cause count_cause surface_cause order_cause faces_cause
causes_in_order v f n = rw (or-none (inverted v f)) (or_assoc (malformed v f) (or_else (too_many v f) (too_short f n)) _ ∙ ap (or_else (malformed v f)) (or_assoc (too_many v f) (too_short f n) _))

-- ---- each cause

-- counts within the limits and corners that name vertices: a body
pub is_body : (v : List Float) (f : List ℕ) (n : ℕ) → Counted v f n → Below f (vertex_count v) → Body v f
is_body v f n h inside = record {
  faces = record { triples = h.corners; few = omega (arith, h.corners, h.faces); small = λ i l. omega (arith, inside i l, h.vertices) };
  inside = inside;
}

-- a scan finds nothing exactly where every test holds
module _ (n : ℕ) (t : ℕ → Bool) (r : ℕ → Refusal) where
  pub none_each : first_of n (λ i. unless (t i) (r i)) ≡ Ok tt → (i : ℕ) → i < n → t i ≡ true
  none_each e i l = holds (t i) (r i) (each n (λ j. unless (t j) (r j)) e i l)

  pub each_none : ((i : ℕ) → i < n → t i ≡ true) → first_of n (λ i. unless (t i) (r i)) ≡ Ok tt
  each_none h = from_each n (λ j. unless (t j) (r j)) (λ i l. passes (t i) (r i) (h i l))

module _ (v : List Float) (f : List ℕ) where
  -- 1
  pub none-malformed : malformed v f ≡ Ok tt → (length v % 3 ≡ 0) × (length f % 3 ≡ 0)
  unfolding malformed
  none-malformed e =
      let t = both (eqb (length v % 3) 0) (eqb (length f % 3) 0) (holds (eqb (length v % 3) 0 && eqb (length f % 3) 0) Malformed e) in
      (eqb-true (length v % 3) 0 t.0, eqb-true (length f % 3) 0 t.1)

  pub malformed-none : length v % 3 ≡ 0 → length f % 3 ≡ 0 → malformed v f ≡ Ok tt
  unfolding malformed
  malformed-none p q = ap₂ (λ (a b : Bool). unless (a && b) Malformed) (eq-eqb (length v % 3) 0 p) (eq-eqb (length f % 3) 0 q)

  -- 2
  pub none-many : too_many v f ≡ Ok tt → (vertex_count v ≤ max_vertices) × (face_count f ≤ max_faces)
  unfolding too_many
  none-many e =
      let t = both (leb (vertex_count v) max_vertices) (leb (face_count f) max_faces) (holds (leb (vertex_count v) max_vertices && leb (face_count f) max_faces) TooMany e) in
      (leb-true (vertex_count v) max_vertices t.0, leb-true (face_count f) max_faces t.1)

  pub many-none : vertex_count v ≤ max_vertices → face_count f ≤ max_faces → too_many v f ≡ Ok tt
  unfolding too_many
  many-none p q = ap₂ (λ (a b : Bool). unless (a && b) TooMany) (le-leb (vertex_count v) max_vertices p) (le-leb (face_count f) max_faces q)

  -- 12
  pub none_short : (n : ℕ) → too_short f n ≡ Ok tt → length f ≤ n
  unfolding too_short
  none_short n e = leb-true (length f) n (holds (leb (length f) n) TooShort e)

  pub short_none : (n : ℕ) → length f ≤ n → too_short f n ≡ Ok tt
  unfolding too_short
  short_none n l = passes (leb (length f) n) TooShort (le-leb (length f) n l)

  -- 1, 2 and 12
  pub none-count : (n : ℕ) → count_cause v f n ≡ Ok tt → Counted v f n
  unfolding count_cause
  none-count n e =
      let a = causes.both (malformed v f) (or_else (too_many v f) (too_short f n)) e in
      let b = causes.both (too_many v f) (too_short f n) a.1 in
      let p = none-malformed a.0 in
      let q = none-many b.0 in
      record { coordinates = p.0; corners = p.1; vertices = q.0; faces = q.1; room = none_short n b.1 }

  pub count_none : (n : ℕ) → Counted v f n → count_cause v f n ≡ Ok tt
  unfolding count_cause
  count_none n h = rw (malformed-none h.coordinates h.corners, many-none h.vertices h.faces, short_none n h.room)

  -- 3
  pub none_limits : out_of_limits v ≡ Ok tt → (i : ℕ) → i < length v → in_limits v i ≡ true
  unfolding out_of_limits
  none_limits e = none_each (length v) (in_limits v) (λ i. OutOfLimits) e

  pub limits_none : ((i : ℕ) → i < length v → in_limits v i ≡ true) → out_of_limits v ≡ Ok tt
  unfolding out_of_limits
  limits_none h = each_none (length v) (in_limits v) (λ i. OutOfLimits) h

  -- 4
  pub none-vertex : no_such_vertex (vertex_count v) f ≡ Ok tt → Below f (vertex_count v)
  unfolding no_such_vertex
  none-vertex e i l = ltb-true (get_or f i 0) (vertex_count v) (none_each (length f) (names_vertex (vertex_count v) f) (λ j. NoSuchVertex (j / 3)) e i l)

  pub vertex-none : Below f (vertex_count v) → no_such_vertex (vertex_count v) f ≡ Ok tt
  unfolding no_such_vertex
  vertex-none h = each_none (length f) (names_vertex (vertex_count v) f) (λ j. NoSuchVertex (j / 3)) (λ i l. lt-ltb (get_or f i 0) (vertex_count v) (h i l))

  -- 7
  pub none_degenerate : degenerate_face v f ≡ Ok tt → (k : ℕ) → k < face_count f → is_zero (normal v f k) ≡ false
  unfolding degenerate_face
  none_degenerate e k l = not-true (is_zero (normal v f k)) (none_each (face_count f) (has_normal v f) (λ j. Degenerate j) e k l)

  pub degenerate_none : ((k : ℕ) → k < face_count f → is_zero (normal v f k) ≡ false) → degenerate_face v f ≡ Ok tt
  unfolding degenerate_face
  degenerate_none h = each_none (face_count f) (has_normal v f) (λ j. Degenerate j) (λ k l. ap not (h k l))

  -- 8
  pub none-inverted : inverted v f ≡ Ok tt → lt 0·0 (volume v f) ≡ true
  unfolding inverted
  none-inverted e = holds (lt 0·0 (volume v f)) Inverted e

  pub inverted-none : lt 0·0 (volume v f) ≡ true → inverted v f ≡ Ok tt
  unfolding inverted
  inverted-none e = passes (lt 0·0 (volume v f)) Inverted e
