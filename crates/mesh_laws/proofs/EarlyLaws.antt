-- What the answers 1, 2, 12, 3 and 4 of `check_mesh` mean. States, each both ways, that it refuses so exactly where the statement of `Refused` holds and that of no cause before it:
-- `is-malformed`, `gives_malformed`: 1; `is-too_many`, `gives_too_many`: 2; `is-too_short`, `gives_too_short`: 12, for a work list of n entries; `is-out_of_limits`,
-- `gives_out_of_limits`: 3; `is-no_such_vertex`, `gives_no_such_vertex`: 4 with the face k. Assumes nothing.
use Rattle.std.specs.Prelude.{◌≡◌, Bool, true, false, ◌&&◌, List, ◌⊎◌, ℕ, ◌+◌, ◌*◌, ◌/◌, ◌%◌, ◌≤◌, ◌<◌, get_or, Float}
use Rattle.std.proofs.Math.Path.{refl, sym, ap}
use Rattle.std.proofs.Common.{◌∙◌}
use Rattle.std.proofs.Math.Logic.{inl, inr, ⊎_elim}
use native.Mathlib.Omega.{arith}
use Rattle.std.proofs.Math.ListN.{length}
use Rattle.std.proofs.Math.Dec.{eqb, leb}
use borrow.Author.Tests.{eqb-false, ne_eqb, leb-false, lt-leb, ltb-true, ltb-false}
use Rattle.refusals.specs.declared.Refusal.{Refusal}
use Rattle.refusals.specs.declared.Refusal.TheVariants.{Malformed, TooMany, TooShort, OutOfLimits, NoSuchVertex}
use Rattle.std.specs.Prelude.{Ok, Err}
use Rattle.refusals.specs.Answer.{or_answer}
use Rattle.refusals.specs.Causes.{Cause}
use Rattle.refusals.specs.Causes.{or_else, unless}
use Rattle.refusals.proofs.Causes.{refuses}
use Rattle.lists.proofs.Numbers.{below?, true≢false}
use Rattle.mesh_orders.specs.Edges.{max_vertices, max_faces}
use Rattle.mesh_orders.specs.Order.{order_list}
use Rattle.mesh.specs.Surface.{vertex_count, face_count, volume}
use Rattle.mesh.specs.Check.{malformed, too_many, too_short, in_limits, out_of_limits, names_vertex, no_such_vertex, count_cause, order_cause, surface_cause, mesh_cause, check_mesh}
use Rattle.mesh.specs.Accepted.{Counted}
use Rattle.mesh.specs.CauseLaws.{none-malformed, malformed-none, none-many, many-none, none_short, short_none, none_limits, limits_none, none-vertex}
use Rattle.mesh.proofs.CauseNumbers.{Only, NumberWithin, only_else, skip, decided, only-malformed, only-many, only_short, only_limits, only-vertex, only-order}
use Rattle.mesh_laws.specs.Refused.{NotTriples, Triples, OverLimit, CountsWithin, NumberOutside, NumbersWithin, FirstNoVertex}
use Rattle.mesh_laws.specs.Smallest.{first_fail}
use Rattle.mesh_laws.proofs.Laws.{answer-refused}

-- ---- tests that fail

fails : (b : Bool) (r s : Refusal) → unless b r ≡ Err s → b ≡ false
fails true r s e = absurd (let z : ◌≡◌ {A = ℕ} 0 1 = cc in omega arith)
fails false r s e = refl

one-fails : (a b : Bool) → (a && b) ≡ false → (a ≡ false) ⊎ (b ≡ false)
one-fails true b e = inr e
one-fails false b e = inl refl

fails_either : (a b : Bool) → (a ≡ false) ⊎ (b ≡ false) → (a && b) ≡ false
fails_either true b (inl e) = absurd (true≢false e)
fails_either true b (inr e) = e
fails_either false b h = refl

-- ---- each cause as a plain statement

module _ (v : List Float) (f : List ℕ) where
  malformed_plain : malformed v f ≡ Err Malformed → NotTriples v f
  unfolding malformed
  malformed_plain e =
      let p = eqb (length v % 3) 0 in
      let q = eqb (length f % 3) 0 in
      ⊎_elim (λ a. inl (eqb-false (length v % 3) 0 a)) (λ b. inr (eqb-false (length f % 3) 0 b)) (one-fails p q (fails (p && q) Malformed Malformed e))

  plain_malformed : NotTriples v f → malformed v f ≡ Err Malformed
  unfolding malformed
  plain_malformed h =
      let p = eqb (length v % 3) 0 in
      let q = eqb (length f % 3) 0 in
      refuses (p && q) Malformed (fails_either p q (⊎_elim (λ a. inl (ne_eqb (length v % 3) 0 a)) (λ b. inr (ne_eqb (length f % 3) 0 b)) h))

  many_plain : too_many v f ≡ Err TooMany → OverLimit v f
  unfolding too_many
  many_plain e =
      let p = leb (vertex_count v) max_vertices in
      let q = leb (face_count f) max_faces in
      ⊎_elim (λ a. inl (leb-false (vertex_count v) max_vertices a)) (λ b. inr (leb-false (face_count f) max_faces b)) (one-fails p q (fails (p && q) TooMany TooMany e))

  plain_many : OverLimit v f → too_many v f ≡ Err TooMany
  unfolding too_many
  plain_many h =
      let p = leb (vertex_count v) max_vertices in
      let q = leb (face_count f) max_faces in
      refuses (p && q) TooMany (fails_either p q (⊎_elim (λ a. inl (lt-leb (vertex_count v) max_vertices a)) (λ b. inr (lt-leb (face_count f) max_faces b)) h))

  short_plain : (n : ℕ) → too_short f n ≡ Err TooShort → n < length f
  unfolding too_short
  short_plain n e = leb-false (length f) n (fails (leb (length f) n) TooShort TooShort e)

  plain_short : (n : ℕ) → n < length f → too_short f n ≡ Err TooShort
  unfolding too_short
  plain_short n l = refuses (leb (length f) n) TooShort (lt-leb (length f) n l)

  limits_plain : out_of_limits v ≡ Err OutOfLimits → NumberOutside v
  unfolding out_of_limits
  limits_plain e = let g = first_fail (in_limits v) (λ i. OutOfLimits) (length v) OutOfLimits e in record { i = g.at; number = g.within; itself = g.fails }

  plain_limits : NumberOutside v → out_of_limits v ≡ Err OutOfLimits
  unfolding out_of_limits
  plain_limits h = go (out_of_limits v) refl
    where
      go : (c : Cause) → out_of_limits v ≡ c → c ≡ Err OutOfLimits
      go (Ok _) e = absurd (true≢false (sym (none_limits v f e h.i h.number) ∙ h.itself))
      go (Err r) e = let g = first_fail (in_limits v) (λ i. OutOfLimits) (length v) r e in ap {B = Cause} Err (sym g.refusal)

  -- the first corner that names no vertex is one of face k
  vertex_plain : (k : ℕ) → length f % 3 ≡ 0 → no_such_vertex (vertex_count v) f ≡ Err (NoSuchVertex k) → FirstNoVertex v f k
  unfolding no_such_vertex
  vertex_plain k h e =
      let g = first_fail (names_vertex (vertex_count v) f) (λ i. NoSuchVertex (i / 3)) (length f) (NoSuchVertex k) e in
      let r = g.refusal in
      let q : g.at / 3 ≡ k = cc in
      let w = g.within in
      let a : 3 * k + g.at % 3 ≡ g.at = omega arith in
      record {
        face = omega arith;
        j = g.at % 3;
        corner = omega arith;
        itself = rw a (ltb-false (get_or f g.at 0) (vertex_count v) g.fails);
        before = λ i l. ltb-true (get_or f i 0) (vertex_count v) (g.before i (omega arith));
      }

  plain_vertex : (k : ℕ) → FirstNoVertex v f k → no_such_vertex (vertex_count v) f ≡ Err (NoSuchVertex k)
  unfolding no_such_vertex
  plain_vertex k h = go (no_such_vertex (vertex_count v) f) refl
    where
      within : 3 * k + h.j < length f
      within = omega (arith, h.face, h.corner)

      -- it names none
      names : (i : ℕ) → names_vertex (vertex_count v) f i ≡ true → i ≡ 3 * k + h.j → ⊥
      names i t q = let l = ltb-true (get_or f i 0) (vertex_count v) t in let e : get_or f i 0 ≡ get_or f (3 * k + h.j) 0 = ap (λ (m : ℕ). get_or f m 0) q in omega (arith, h.itself)

      go : (c : Cause) → no_such_vertex (vertex_count v) f ≡ c → c ≡ Err (NoSuchVertex k)
      go (Ok _) e = absurd (let l = none-vertex v f e (3 * k + h.j) within in omega (arith, h.itself))
      go (Err r) e =
          let g = first_fail (names_vertex (vertex_count v) f) (λ i. NoSuchVertex (i / 3)) (length f) r e in
          let l = ltb-false (get_or f g.at 0) (vertex_count v) g.fails in
          let lo : 3 * k ≤ g.at = ⊎_elim (λ m. absurd (let b = h.before g.at m in omega arith)) (λ m. m) (below? g.at (3 * k)) in
          let hi : g.at ≤ 3 * k + h.j = ⊎_elim (λ m. absurd (names (3 * k + h.j) (g.before (3 * k + h.j) m) refl)) (λ m. m) (below? (3 * k + h.j) g.at) in
          let q : g.at / 3 ≡ k = omega (arith, h.corner) in
          ap {B = Cause} Err (sym g.refusal ∙ ap {B = Refusal} NoSuchVertex q)

-- ---- the causes in order

or_assoc : (c d e : Cause) → or_else (or_else c d) e ≡ or_else c (or_else d e)
or_assoc (Ok _) d e = refl
or_assoc (Err r) d e = refl

wider : (lo hi low high : ℕ) (c : Cause) → low ≤ lo → hi ≤ high → Only (NumberWithin lo hi) c → Only (NumberWithin low high) c
wider lo hi low high c a b p r e = let q = p r e in omega (arith, q.0, q.1)

module _ (v : List Float) (f : List ℕ) (n : ℕ) where
  -- the causes after 4, after 3, after 12, after 2 and after 1
  abbrev after4 : Cause
  after4 = order_cause v f (order_list f)

  abbrev after3 : Cause
  after3 = or_else (no_such_vertex (vertex_count v) f) after4

  abbrev after12 : Cause
  after12 = or_else (out_of_limits v) after3

  abbrev after2 : Cause
  after2 = or_else (too_short f n) after12

  abbrev after1 : Cause
  after1 = or_else (too_many v f) after2

  only-after3 : Only (NumberWithin 4 8) after3
  only-after3 =
      only_else (NumberWithin 4 8) (no_such_vertex (vertex_count v) f) after4 (wider 4 4 4 8 (no_such_vertex (vertex_count v) f) (omega arith) (omega arith) (only-vertex v f))
      (wider 5 8 4 8 after4 (omega arith) (omega arith) (only-order v f (order_list f)))

  only-after12 : Only (NumberWithin 3 8) after12
  only-after12 =
      only_else (NumberWithin 3 8) (out_of_limits v) after3 (wider 3 3 3 8 (out_of_limits v) (omega arith) (omega arith) (only_limits v f))
      (wider 4 8 3 8 after3 (omega arith) (omega arith) only-after3)

  only-after2 : Only (NumberWithin 3 12) after2
  only-after2 =
      only_else (NumberWithin 3 12) (too_short f n) after12 (wider 12 12 3 12 (too_short f n) (omega arith) (omega arith) (only_short v f n))
      (wider 3 8 3 12 after12 (omega arith) (omega arith) only-after12)

  only-after1 : Only (NumberWithin 2 12) after1
  only-after1 =
      only_else (NumberWithin 2 12) (too_many v f) after2 (wider 2 2 2 12 (too_many v f) (omega arith) (omega arith) (only-many v f))
      (wider 3 12 2 12 after2 (omega arith) (omega arith) only-after2)

  in_line : mesh_cause v f n ≡ or_else (malformed v f) after1
  unfolding mesh_cause count_cause surface_cause
  in_line = or_assoc (malformed v f) (or_else (too_many v f) (too_short f n)) after12 ∙ ap (or_else (malformed v f)) (or_assoc (too_many v f) (too_short f n) after12)

  answered : (r : Refusal) → check_mesh v f n ≡ Err r → or_else (malformed v f) after1 ≡ Err r
  unfolding check_mesh
  answered r e = sym in_line ∙ answer-refused (mesh_cause v f n) (volume v f) r e

  answers : (r : Refusal) → or_else (malformed v f) after1 ≡ Err r → check_mesh v f n ≡ Err r
  unfolding check_mesh
  answers r e = ap (λ (c : Cause). or_answer c (Ok (volume v f))) (in_line ∙ e)

  -- the causes before, for an answer of another number
  past1 : (r : Refusal) → (NumberWithin 1 1 r → ⊥) → check_mesh v f n ≡ Err r → Triples v f × (after1 ≡ Err r)
  past1 r h e = let a = skip (NumberWithin 1 1) (malformed v f) after1 r (only-malformed v f) h (answered r e) in (none-malformed v f a.0, a.1)

  past2 : (r : Refusal) → (NumberWithin 1 1 r → ⊥) → (NumberWithin 2 2 r → ⊥) → check_mesh v f n ≡ Err r → Triples v f × CountsWithin v f × (after2 ≡ Err r)
  past2 r h k e =
      let a = past1 r h e in
      let b = skip (NumberWithin 2 2) (too_many v f) after2 r (only-many v f) k a.1 in
      (a.0, none-many v f b.0, b.1)

  past12 : (r : Refusal) → (NumberWithin 1 1 r → ⊥) → (NumberWithin 2 2 r → ⊥) → (NumberWithin 12 12 r → ⊥) → check_mesh v f n ≡ Err r
      → Counted v f n × (after12 ≡ Err r)
  past12 r h k l e =
      let a = past2 r h k e in
      let b = skip (NumberWithin 12 12) (too_short f n) after12 r (only_short v f n) l a.2 in
      (record { coordinates = a.0.0; corners = a.0.1; vertices = a.1.0; faces = a.1.1; room = none_short v f n b.0 }, b.1)

  -- 1
  pub is-malformed : check_mesh v f n ≡ Err Malformed → NotTriples v f
  is-malformed e = malformed_plain v f (decided (NumberWithin 2 12) (malformed v f) after1 Malformed only-after1 (λ q. omega (arith, q.0)) (answered Malformed e))

  pub gives_malformed : NotTriples v f → check_mesh v f n ≡ Err Malformed
  gives_malformed h = answers Malformed (rw (plain_malformed v f h))

  -- 2
  pub is-too_many : check_mesh v f n ≡ Err TooMany → Triples v f × OverLimit v f
  is-too_many e =
      let a = past1 TooMany (λ q. omega (arith, q.1)) e in
      (a.0, many_plain v f (decided (NumberWithin 3 12) (too_many v f) after2 TooMany only-after2 (λ q. omega (arith, q.0)) a.1))

  pub gives_too_many : Triples v f → OverLimit v f → check_mesh v f n ≡ Err TooMany
  gives_too_many t h = answers TooMany (rw (malformed-none v f t.0 t.1, plain_many v f h))

  -- 12
  pub is-too_short : check_mesh v f n ≡ Err TooShort → Triples v f × CountsWithin v f × (n < length f)
  is-too_short e =
      let a = past2 TooShort (λ q. omega (arith, q.1)) (λ q. omega (arith, q.1)) e in
      (a.0, a.1, short_plain v f n (decided (NumberWithin 3 8) (too_short f n) after12 TooShort only-after12 (λ q. omega (arith, q.1)) a.2))

  pub gives_too_short : Triples v f → CountsWithin v f → n < length f → check_mesh v f n ≡ Err TooShort
  gives_too_short t c h = answers TooShort (rw (malformed-none v f t.0 t.1, many-none v f c.0 c.1, plain_short v f n h))

  -- 3
  pub is-out_of_limits : check_mesh v f n ≡ Err OutOfLimits → Counted v f n × NumberOutside v
  is-out_of_limits e =
      let a = past12 OutOfLimits (λ q. omega (arith, q.1)) (λ q. omega (arith, q.1)) (λ q. omega (arith, q.0)) e in
      (a.0, limits_plain v f (decided (NumberWithin 4 8) (out_of_limits v) after3 OutOfLimits only-after3 (λ q. omega (arith, q.0)) a.1))

  pub gives_out_of_limits : Counted v f n → NumberOutside v → check_mesh v f n ≡ Err OutOfLimits
  gives_out_of_limits c h =
      answers OutOfLimits (rw (malformed-none v f c.coordinates c.corners, many-none v f c.vertices c.faces, short_none v f n c.room, plain_limits v f h))

  -- 4
  pub is-no_such_vertex : (k : ℕ) → check_mesh v f n ≡ Err (NoSuchVertex k) → Counted v f n × NumbersWithin v × FirstNoVertex v f k
  is-no_such_vertex k e =
      let a = past12 (NoSuchVertex k) (λ q. omega (arith, q.1)) (λ q. omega (arith, q.1)) (λ q. omega (arith, q.0)) e in
      let b = skip (NumberWithin 3 3) (out_of_limits v) after3 (NoSuchVertex k) (only_limits v f) (λ q. omega (arith, q.1)) a.1 in
      let d = decided (NumberWithin 5 8) (no_such_vertex (vertex_count v) f) after4 (NoSuchVertex k) (only-order v f (order_list f)) (λ q. omega (arith, q.0)) b.1 in
      (a.0, none_limits v f b.0, vertex_plain v f k a.0.corners d)

  pub gives_no_such_vertex : (k : ℕ) → Counted v f n → NumbersWithin v → FirstNoVertex v f k → check_mesh v f n ≡ Err (NoSuchVertex k)
  gives_no_such_vertex k c l h =
      answers (NoSuchVertex k)
      (rw (malformed-none v f c.coordinates c.corners, many-none v f c.vertices c.faces, short_none v f n c.room, limits_none v f l, plain_vertex v f k h))
