-- With which numbers of document 01 the causes refuse. States: `only-malformed`, .., `only-inverted`: each cause with its own number alone; `only-faces`, `only-order`: 7 and 8,
-- 5 to 8; `skip`, `decided`: of two causes in a row, the number of a refusal tells which one gave it. Assumes nothing.
use mathlib.Core.Path.{◌≡◌, refl, subst}
use mathlib.Core.Bool.{Bool, true, false, ◌&&◌}
use mathlib.Core.List.{List}
use Prim.Native.Nat.{ℕ, zero, suc, ◌/◌, ◌%◌, ◌≤◌}
use native.Mathlib.Omega.{arith}
use lib.ListN.{length}
use lib.Dec.{eqb, leb}
use lib.Ieee.{Float, lt}
use Rattle.doubles.specs.Constants.{0·0}
use Rattle.refusals.specs.declared.Refusal.{Refusal}
use Rattle.refusals.specs.declared.Refusal.TheVariants.{Malformed, TooMany, TooShort, OutOfLimits, NoSuchVertex, Degenerate, Inverted}
use Rattle.std.specs.Prelude.{Ok, Err}
use Rattle.refusals.specs.Causes.{Cause}
use Rattle.refusals.specs.Numbers.{number_of}
use Rattle.refusals.specs.Causes.{or_else, unless, first_of}
use Rattle.mesh_orders.specs.Edges.{max_vertices, max_faces}
use Rattle.mesh.specs.Surface.{vertex_count, face_count, volume}
use Rattle.mesh.specs.Check.{malformed, too_many, too_short, in_limits, out_of_limits, names_vertex, no_such_vertex, occurs_once, flipped_at, flipped_edge, reverse_occurs, open_at, open_edge, has_normal, degenerate_face, inverted, faces_cause, order_cause}

-- c refuses only with refusals that have P
abbrev pub Only : (Refusal → Type 0) → Cause → Type 0
Only P c = (r : Refusal) → c ≡ Err r → P r

-- the number of r is one of lo to hi
abbrev pub NumberWithin : ℕ → ℕ → Refusal → Type 0
NumberWithin lo hi r = (lo ≤ number_of r) × (number_of r ≤ hi)

module _ (P : Refusal → Type 0) where
  pub only-unless : (t : Bool) (s : Refusal) → P s → Only P (unless t s)
  only-unless true s h r e = absurd (let z : ◌≡◌ {A = ℕ} 0 1 = cc in omega arith)
  only-unless false s h r e = subst P (let z : s ≡ r = cc in z) h

  pub only_else : (c d : Cause) → Only P c → Only P d → Only P (or_else c d)
  only_else (Ok _) d p q = q
  only_else (Err x) d p q = p

  pub only-first : (n : ℕ) (t : ℕ → Bool) (s : ℕ → Refusal) → ((i : ℕ) → P (s i)) → Only P (first_of n (λ i. unless (t i) (s i)))
  unfolding first_of
  only-first zero t s h r e = absurd (let z : ◌≡◌ {A = ℕ} 0 1 = cc in omega arith)
  only-first (suc n) t s h r e = only_else (first_of n (λ i. unless (t i) (s i))) (unless (t n) (s n)) (only-first n t s h) (only-unless (t n) (s n) (h n)) r e

  -- the first cause never refuses with r: it does not hold, and the second decides
  pub skip : (c d : Cause) (r : Refusal) → Only P c → (P r → ⊥) → or_else c d ≡ Err r → (c ≡ Ok tt) × (d ≡ Err r)
  skip (Ok _) d r p n e = (refl, e)
  skip (Err x) d r p n e = absurd (n (p r e))

  -- the second cause never refuses with r: the first decides
  pub decided : (c d : Cause) (r : Refusal) → Only P d → (P r → ⊥) → or_else c d ≡ Err r → c ≡ Err r
  decided (Ok _) d r p n e = absurd (n (p r e))
  decided (Err x) d r p n e = e

-- more numbers
more_numbers : (lo hi low high : ℕ) (c : Cause) → low ≤ lo → hi ≤ high → Only (NumberWithin lo hi) c → Only (NumberWithin low high) c
more_numbers lo hi low high c a b p r e = let q = p r e in omega (arith, q.0, q.1)

module _ (v : List Float) (f : List ℕ) where
  pub only-malformed : Only (NumberWithin 1 1) (malformed v f)
  unfolding malformed
  only-malformed = only-unless (NumberWithin 1 1) (eqb (length v % 3) 0 && eqb (length f % 3) 0) Malformed (omega arith)

  pub only-many : Only (NumberWithin 2 2) (too_many v f)
  unfolding too_many
  only-many = only-unless (NumberWithin 2 2) (leb (vertex_count v) max_vertices && leb (face_count f) max_faces) TooMany (omega arith)

  pub only_short : (n : ℕ) → Only (NumberWithin 12 12) (too_short f n)
  unfolding too_short
  only_short n = only-unless (NumberWithin 12 12) (leb (length f) n) TooShort (omega arith)

  pub only_limits : Only (NumberWithin 3 3) (out_of_limits v)
  unfolding out_of_limits
  only_limits = only-first (NumberWithin 3 3) (length v) (in_limits v) (λ i. OutOfLimits) (λ i. omega arith)

  pub only-vertex : Only (NumberWithin 4 4) (no_such_vertex (vertex_count v) f)
  unfolding no_such_vertex
  only-vertex = only-first (NumberWithin 4 4) (length f) (names_vertex (vertex_count v) f) (λ i. NoSuchVertex (i / 3)) (λ i. omega arith)

  pub only_flipped : (o : List ℕ) → Only (NumberWithin 5 5) (flipped_edge f o)
  unfolding flipped_edge
  only_flipped o = only-first (NumberWithin 5 5) (length f) (occurs_once f o) (flipped_at f o) (λ i. omega arith)

  pub only_open : (o : List ℕ) → Only (NumberWithin 6 6) (open_edge f o)
  unfolding open_edge
  only_open o = only-first (NumberWithin 6 6) (length f) (reverse_occurs f o) (open_at f o) (λ i. omega arith)

  pub only_degenerate : Only (NumberWithin 7 7) (degenerate_face v f)
  unfolding degenerate_face
  only_degenerate = only-first (NumberWithin 7 7) (face_count f) (has_normal v f) (λ k. Degenerate k) (λ i. omega arith)

  pub only-inverted : Only (NumberWithin 8 8) (inverted v f)
  unfolding inverted
  only-inverted = only-unless (NumberWithin 8 8) (lt 0·0 (volume v f)) Inverted (omega arith)

  pub only-faces : Only (NumberWithin 7 8) (faces_cause v f)
  unfolding faces_cause
  only-faces =
      only_else (NumberWithin 7 8) (degenerate_face v f) (inverted v f) (more_numbers 7 7 7 8 (degenerate_face v f) (omega arith) (omega arith) only_degenerate)
      (more_numbers 8 8 7 8 (inverted v f) (omega arith) (omega arith) only-inverted)

  -- 6 to 8, the causes after 5
  pub only-after_flipped : (o : List ℕ) → Only (NumberWithin 6 8) (or_else (open_edge f o) (faces_cause v f))
  only-after_flipped o =
      only_else (NumberWithin 6 8) (open_edge f o) (faces_cause v f) (more_numbers 6 6 6 8 (open_edge f o) (omega arith) (omega arith) (only_open o))
      (more_numbers 7 8 6 8 (faces_cause v f) (omega arith) (omega arith) only-faces)

  pub only-order : (o : List ℕ) → Only (NumberWithin 5 8) (order_cause v f o)
  unfolding order_cause
  only-order o =
      only_else (NumberWithin 5 8) (flipped_edge f o) (or_else (open_edge f o) (faces_cause v f)) (more_numbers 5 5 5 8 (flipped_edge f o) (omega arith) (omega arith) (only_flipped o))
      (more_numbers 6 8 5 8 (or_else (open_edge f o) (faces_cause v f)) (omega arith) (omega arith) (only-after_flipped o))
