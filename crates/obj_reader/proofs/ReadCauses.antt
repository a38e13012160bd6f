-- The causes 2, 12, 3 and 4 in order, by what a survey has. States: `many_vertices`, `many_faces`, `short_vertices`, `short_faces`, `beyond_is`: a cause that decides; `named_is`: where 4 alone is left; `all_within_is`: 3, where no
-- coordinate is beyond; `largest_named`: 4, where no number is above the largest; `counts_small`, `numbers_named`: what a text without cause has. Assumes nothing.
use Rattle.std.specs.Prelude.{◌≡◌, refl, Bool, true, false, ◌⊎◌, List, [], ◌∷◌, ℕ, zero, suc, ◌*◌, ◌/◌, ◌≤◌, ◌<◌, length, get_or, Float, Ok, Err}
use Rattle.std.proofs.Common.{sym, ap, ◌∙◌, arith, inl, inr, ⊎_elim, le-leb, lt-ltb, ltb-true}
use Rattle.std.proofs.lemmas.Bool.{false≢true, lt-leb}
use Rattle.doubles.specs.Magnitude.{within_limits}
use Rattle.refusals.specs.declared.Refusal.{Refusal}
use Rattle.refusals.specs.declared.Refusal.TheVariants.{TooMany, TooShort, OutOfLimits, NoSuchVertex}
use Rattle.refusals.specs.Causes.{Cause, or_else, unless, first_of}
use Rattle.refusals.proofs.Causes.{holds, each, from_each, passes}
use Rattle.refusals.proofs.Causes as causes
use Rattle.lists.specs.Count.{Below}
use Rattle.lists.proofs.Numbers.{both, both_within}
use Rattle.mesh_orders.specs.Edges.{max_vertices, max_faces}
use Rattle.mesh.specs.Surface.{vertex_count, face_count}
use Rattle.mesh.specs.Check.{too_many, in_limits, out_of_limits, names_vertex, no_such_vertex}
use Rattle.obj.specs.Reader.{vertices_of, faces_of, lists_too_short, read_cause}
use Rattle.obj_reader.specs.declared.contents.Contents.{Contents}
use Rattle.obj_reader.specs.Passes.{all_within, largest_of, Surveys}
use Rattle.obj_reader.proofs.Naming.{corner_cause}

-- ---- 3 and 4 by what is found

within_at : (v : List Float) → all_within v ≡ true → (i : ℕ) → i < length v → in_limits v i ≡ true
within_at [] h i l = absurd (omega arith)
within_at (x ∷ v) h zero l = (both (within_limits x) (all_within v) h).0
within_at (x ∷ v) h (suc i) l = within_at v (both (within_limits x) (all_within v) h).1 i (omega arith)

within_from : (v : List Float) → ((i : ℕ) → i < length v → in_limits v i ≡ true) → all_within v ≡ true
within_from [] h = refl
within_from (x ∷ v) h = rw (h zero (omega arith), within_from v (λ i l. h (suc i) (omega arith)))

pub all_within_is : (v : List Float) → all_within v ≡ true → out_of_limits v ≡ Ok tt
unfolding out_of_limits
all_within_is v h = from_each (length v) (λ i. unless (in_limits v i) OutOfLimits) (λ i l. passes (in_limits v i) OutOfLimits (within_at v h i l))

one_more : (c : Cause) (t : Bool) (r : Refusal) → c ≡ Ok tt → (or_else c (unless t r) ≡ Ok tt) ⊎ (or_else c (unless t r) ≡ Err r)
one_more c true r e = inl (rw e)
one_more c false r e = inr (rw e)

-- tests with one refusal find none of them or that one
none_or : (n : ℕ) (test : ℕ → Bool) (r : Refusal) → (first_of n (λ i. unless (test i) r) ≡ Ok tt) ⊎ (first_of n (λ i. unless (test i) r) ≡ Err r)
unfolding first_of
none_or zero test r = inl refl
none_or (suc n) test r = ⊎_elim (λ e. one_more _ (test n) r e) (λ e. inr (rw e)) (none_or n test r)

beyond_limits : (v : List Float) → all_within v ≡ false → out_of_limits v ≡ Err OutOfLimits
unfolding out_of_limits
beyond_limits v h =
    ⊎_elim
    (λ e. absurd (false≢true (sym h ∙ within_from v (λ i l. holds (in_limits v i) OutOfLimits (each (length v) (λ i. unless (in_limits v i) OutOfLimits) e i l)))))
    (λ e. e)
    (none_or (length v) (in_limits v) OutOfLimits)

upto_largest : (f : List ℕ) (i : ℕ) → i < length f → get_or f i 0 ≤ largest_of f
upto_largest [] i l = omega arith
upto_largest (x ∷ f) zero l = omega arith
upto_largest (x ∷ f) (suc i) l = omega (arith, upto_largest f i (omega arith))

pub largest_named : (n : ℕ) (f : List ℕ) → largest_of f < n → no_such_vertex n f ≡ Ok tt
unfolding no_such_vertex
largest_named n f h = from_each (length f) (corner_cause n f) (λ i l. passes (names_vertex n f i) (NoSuchVertex (i / 3)) (lt-ltb (get_or f i 0) n (omega (arith, upto_largest f i l))))

-- ---- one after the other

module _ (t : List ℕ) (s : Contents) (h : Surveys t s) (n m : ℕ) where
  abbrev v : List Float
  v = vertices_of t

  abbrev f : List ℕ
  f = faces_of t

  vertices_are : vertex_count v ≡ s.vertices
  vertices_are = omega (arith, h.vertices)

  faces_are : face_count f ≡ s.faces
  faces_are = omega (arith, h.faces)

  pub many_vertices : max_vertices < s.vertices → Err TooMany ≡ read_cause v f n m
  unfolding read_cause too_many
  many_vertices q = rw (lt-leb (vertex_count v) max_vertices (omega (arith, vertices_are)))

  pub many_faces : s.vertices ≤ max_vertices → max_faces < s.faces → Err TooMany ≡ read_cause v f n m
  unfolding read_cause too_many
  many_faces p q = rw (le-leb (vertex_count v) max_vertices (omega (arith, vertices_are)), lt-leb (face_count f) max_faces (omega (arith, faces_are)))

  module _ (few : s.vertices ≤ max_vertices) (fewer : s.faces ≤ max_faces) where
    not_many : too_many v f ≡ Ok tt
    unfolding too_many
    not_many = rw (le-leb (vertex_count v) max_vertices (omega (arith, vertices_are)), le-leb (face_count f) max_faces (omega (arith, faces_are)))

    pub short_vertices : n < 3 * s.vertices → Err TooShort ≡ read_cause v f n m
    unfolding read_cause lists_too_short
    short_vertices q = rw (not_many, lt-leb (length v) n (omega (arith, h.vertices)))

    pub short_faces : 3 * s.vertices ≤ n → m < 3 * s.faces → Err TooShort ≡ read_cause v f n m
    unfolding read_cause lists_too_short
    short_faces p q = rw (not_many, le-leb (length v) n (omega (arith, h.vertices)), lt-leb (length f) m (omega (arith, h.faces)))

    module _ (room : 3 * s.vertices ≤ n) (space : 3 * s.faces ≤ m) where
      not_short : lists_too_short v f n m ≡ Ok tt
      unfolding lists_too_short
      not_short = rw (le-leb (length v) n (omega (arith, h.vertices)), le-leb (length f) m (omega (arith, h.faces)))

      pub beyond_is : s.within ≡ false → Err OutOfLimits ≡ read_cause v f n m
      unfolding read_cause
      beyond_is q = rw (not_many, not_short, beyond_limits v (h.within ∙ q))

      pub named_is : s.within ≡ true → no_such_vertex s.vertices f ≡ read_cause v f n m
      unfolding read_cause
      named_is q = rw (not_many, not_short, all_within_is v (h.within ∙ q)) (ap (λ (k : ℕ). no_such_vertex k f) (sym vertices_are))

-- ---- a text without cause

module _ (v : List Float) (f : List ℕ) (n m : ℕ) (h : read_cause v f n m ≡ Ok tt) where
  first : (too_many v f ≡ Ok tt) × (or_else (lists_too_short v f n m) (or_else (out_of_limits v) (no_such_vertex (vertex_count v) f)) ≡ Ok tt)
  unfolding read_cause
  first = causes.both (too_many v f) (or_else (lists_too_short v f n m) (or_else (out_of_limits v) (no_such_vertex (vertex_count v) f))) h

  second : (lists_too_short v f n m ≡ Ok tt) × (or_else (out_of_limits v) (no_such_vertex (vertex_count v) f) ≡ Ok tt)
  second = causes.both (lists_too_short v f n m) (or_else (out_of_limits v) (no_such_vertex (vertex_count v) f)) first.1

  pub counts_small : (vertex_count v ≤ max_vertices) × (face_count f ≤ max_faces)
  unfolding too_many
  counts_small = both_within (vertex_count v) (face_count f) max_vertices max_faces (holds _ TooMany first.0)

  pub lists_long : (length v ≤ n) × (length f ≤ m)
  unfolding lists_too_short
  lists_long = both_within (length v) (length f) n m (holds _ TooShort second.0)

  pub numbers_named : Below f (vertex_count v)
  unfolding no_such_vertex
  numbers_named i l =
      ltb-true (get_or f i 0) (vertex_count v)
      (holds (names_vertex (vertex_count v) f i) (NoSuchVertex (i / 3))
      (each (length f) (corner_cause (vertex_count v) f) (causes.both (out_of_limits v) (no_such_vertex (vertex_count v) f) second.1).1 i l))
