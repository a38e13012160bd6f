-- What the answers of `check_mesh` mean. States, each both ways: `accepted`, `accepts`: a mesh is accepted exactly where it is sound and closed, no computed normal is zero and the
-- computed volume, which is the answer, is above 0; `flipped`, `flips` and `is_open`, `opens`: Flipped and Open name the smallest edge; `degenerate`, `degenerates`: Degenerate names
-- the first face; `is-inverted`, `inverts`. Also `accepted-work`: the order list in work; `checked`, `checks`: what `check_surface` leaves. `EarlyLaws` has the answers 1, 2, 12, 3 and 4.
-- Assumes nothing.
use Rattle.std.specs.Prelude.{◌≡◌, refl, false, List, ◌++◌, ℕ, ◌≤◌, ◌<◌, length, take, drop, Float}
use Rattle.std.proofs.Common.{sym, ◌∙◌, arith, take_at}
use Rattle.std.proofs.Math.Path.{ap}
use Rattle.std.specs.Float.Ieee.{lt}
use Rattle.doubles.specs.Constants.{0·0}
use Rattle.refusals.specs.declared.Refusal.{Refusal}
use Rattle.refusals.specs.declared.Refusal.TheVariants.{Flipped, Open, Degenerate, Inverted}
use Rattle.std.specs.Prelude.{Ok, Err}
use Rattle.refusals.specs.Answer.{Answer, or_answer}
use Rattle.refusals.specs.Causes.{Cause}
use Rattle.refusals.specs.Numbers.{number_of}
use Rattle.refusals.specs.Causes.{or_else}
use Rattle.refusals.proofs.Causes.{both}
use Rattle.mesh_orders.specs.Edges.{occurrences}
use Rattle.mesh_orders.specs.Order.{order_list}
use Rattle.mesh_orders.specs.OrderLaws.{order-length}
use Rattle.mesh.specs.Surface.{vertex_count, face_count, normal, is_zero, volume}
use Rattle.mesh.specs.Check.{no_such_vertex, flipped_edge, open_edge, degenerate_face, inverted, faces_cause, order_cause, surface_cause, mesh_cause, solid_of, check_mesh, work_after}
use Rattle.mesh.specs.Accepted.{Counted, Checked, Sound, Closed, Accepted}
use Rattle.mesh.specs.CauseLaws.{is_body, none-vertex, vertex-none, none_degenerate, degenerate_none}
use Rattle.mesh.proofs.CauseNumbers.{NumberWithin, skip, decided, only_flipped, only_open, only_degenerate, only-inverted, only-faces, only-after_flipped}
use Rattle.mesh_laws.specs.Refused.{SmallestTwice, SmallestOpen, FirstDegenerate}
use Rattle.mesh_laws.specs.Chain.{sound-body, sound-order, none-sound, late_sound}
use Rattle.mesh_laws.specs.LateCauses.{none_flipped, flipped_none, flipped_smallest, smallest_flipped, open_smallest, smallest_open, none-closed, closed_none, degenerate_first, first_degenerate, not-positive, none-order, order-none}

-- ---- the answers

pub solid-volume : (c : Cause) (y x : Float) → solid_of c y ≡ Ok x → (c ≡ Ok tt) × (x ≡ y)
solid-volume (Ok _) y x e = (refl, cc)
solid-volume (Err r) y x e = absurd (let z : ◌≡◌ {A = ℕ} 0 1 = cc in omega arith)

pub solid-refused : (c : Cause) (y : Float) (r : Refusal) → solid_of c y ≡ Err r → c ≡ Err r
solid-refused (Ok _) y r e = absurd (let z : ◌≡◌ {A = ℕ} 0 1 = cc in omega arith)
solid-refused (Err s) y r e = ap {B = Cause} Err (let z : s ≡ r = cc in z)

answer-value : (c : Cause) (y x : Float) → or_answer c (Ok y) ≡ Ok x → (c ≡ Ok tt) × (x ≡ y)
answer-value (Ok _) y x e = (refl, cc)
answer-value (Err r) y x e = absurd (let z : ◌≡◌ {A = ℕ} 0 1 = cc in omega arith)

pub answer-refused : (c : Cause) (y : Float) (r : Refusal) → or_answer c (Ok y) ≡ Err r → c ≡ Err r
answer-refused (Ok _) y r e = absurd (let z : ◌≡◌ {A = ℕ} 0 1 = cc in omega arith)
answer-refused (Err s) y r e = ap {B = Cause} Err (let z : s ≡ r = cc in z)

module _ (v : List Float) (f : List ℕ) (n : ℕ) where
  -- of a sound mesh the causes 5 to 8 give the answer
  answer : Sound v f n → (c : Cause) → order_cause v f (order_list f) ≡ c → check_mesh v f n ≡ or_answer c (Ok (volume v f))
  unfolding check_mesh
  answer s c e = ap (λ (d : Cause). or_answer d (Ok (volume v f))) (sound-order v f n s ∙ e)

  late : (r : Refusal) → 5 ≤ number_of r → number_of r ≤ 8 → check_mesh v f n ≡ Err r → Sound v f n × (order_cause v f (order_list f) ≡ Err r)
  unfolding check_mesh
  late r lo hi e = late_sound v f n r lo hi (answer-refused (mesh_cause v f n) (volume v f) r e)

  -- the causes after 5
  abbrev after_flipped : Cause
  after_flipped = or_else (open_edge f (order_list f)) (faces_cause v f)

  -- accepted
  pub accepted : (x : Float) → check_mesh v f n ≡ Ok x → Accepted v f n x
  unfolding check_mesh
  accepted x e =
      let m = answer-value (mesh_cause v f n) (volume v f) x e in
      let s = none-sound v f n m.0 in
      let c = none-order v f (sound-body v f n s.0).faces s.1 in
      record { sound = s.0; closed = c.0; normals = c.1; positive = c.2; answer = m.1 }

  pub accepts : (x : Float) → Accepted v f n x → check_mesh v f n ≡ Ok x
  accepts x h =
      answer h.sound (Ok tt) (order-none v f (sound-body v f n h.sound).faces (h.closed, h.normals, h.positive))
      ∙ ap {B = Answer Float} Ok (sym h.answer)

  -- and its work list starts with the order list
  pub accepted-work : (w : List ℕ) (x : Float) → check_mesh v f n ≡ Ok x
      → work_after (mesh_cause v f n) f w ≡ order_list f ++ drop (length f) w
  unfolding check_mesh work_after
  accepted-work w x e = rw (answer-value (mesh_cause v f n) (volume v f) x e).0

  pub work-front : (w : List ℕ) → take (length f) (order_list f ++ drop (length f) w) ≡ order_list f
  work-front w = take_at (order_list f) (drop (length f) w) (length f) (order-length f)

  -- Flipped
  pub flipped : (a b : ℕ) → check_mesh v f n ≡ Err (Flipped a b) → Sound v f n × SmallestTwice f a b
  unfolding order_cause
  flipped a b e =
      let s = late (Flipped a b) (omega arith) (omega arith) e in (
        s.0,
        flipped_smallest f (sound-body v f n s.0).faces a b
            (decided (NumberWithin 6 8) (flipped_edge f (order_list f)) after_flipped (Flipped a b) (only-after_flipped v f (order_list f)) (λ q. omega (arith, q.0)) s.1),
      )

  pub flips : (a b : ℕ) → Sound v f n → SmallestTwice f a b → check_mesh v f n ≡ Err (Flipped a b)
  unfolding order_cause
  flips a b s m = answer s (Err (Flipped a b)) (rw (smallest_flipped f (sound-body v f n s).faces a b m))

  -- Open
  pub is_open : (a b : ℕ) → check_mesh v f n ≡ Err (Open a b) → Sound v f n × ((c d : ℕ) → occurrences f c d ≤ 1) × SmallestOpen f a b
  unfolding order_cause
  is_open a b e =
      let s = late (Open a b) (omega arith) (omega arith) e in
      let h = (sound-body v f n s.0).faces in
      let t = skip (NumberWithin 5 5) (flipped_edge f (order_list f)) after_flipped (Open a b) (only_flipped v f (order_list f)) (λ q. omega (arith, q.1)) s.1 in (
        s.0,
        none_flipped f h t.0,
        open_smallest f h a b
            (decided (NumberWithin 7 8) (open_edge f (order_list f)) (faces_cause v f) (Open a b) (only-faces v f) (λ q. omega (arith, q.0)) t.1),
      )

  pub opens : (a b : ℕ) → Sound v f n → ((c d : ℕ) → occurrences f c d ≤ 1) → SmallestOpen f a b → check_mesh v f n ≡ Err (Open a b)
  unfolding order_cause
  opens a b s o m = let h = (sound-body v f n s).faces in answer s (Err (Open a b)) (rw (flipped_none f h o, smallest_open f h a b m))

  -- Degenerate
  pub degenerate : (k : ℕ) → check_mesh v f n ≡ Err (Degenerate k) → Sound v f n × Closed f × FirstDegenerate v f k
  unfolding order_cause faces_cause
  degenerate k e =
      let s = late (Degenerate k) (omega arith) (omega arith) e in
      let t = skip (NumberWithin 5 5) (flipped_edge f (order_list f)) after_flipped (Degenerate k) (only_flipped v f (order_list f)) (λ q. omega (arith, q.1)) s.1 in
      let u = skip (NumberWithin 6 6) (open_edge f (order_list f)) (faces_cause v f) (Degenerate k) (only_open v f (order_list f)) (λ q. omega (arith, q.1)) t.1 in (
        s.0,
        none-closed f (sound-body v f n s.0).faces t.0 u.0,
        degenerate_first v f k
            (decided (NumberWithin 8 8) (degenerate_face v f) (inverted v f) (Degenerate k) (only-inverted v f) (λ q. omega (arith, q.0)) u.1),
      )

  pub degenerates : (k : ℕ) → Sound v f n → Closed f → FirstDegenerate v f k → check_mesh v f n ≡ Err (Degenerate k)
  unfolding order_cause faces_cause
  degenerates k s c d = let z = closed_none f (sound-body v f n s).faces c in answer s (Err (Degenerate k)) (rw (z.0, z.1, first_degenerate v f k d))

  -- Inverted
  pub is-inverted : check_mesh v f n ≡ Err Inverted
      → Sound v f n × Closed f × ((k : ℕ) → k < face_count f → is_zero (normal v f k) ≡ false) × (lt 0·0 (volume v f) ≡ false)
  unfolding order_cause faces_cause
  is-inverted e =
      let s = late Inverted (omega arith) (omega arith) e in
      let t = skip (NumberWithin 5 5) (flipped_edge f (order_list f)) after_flipped Inverted (only_flipped v f (order_list f)) (λ q. omega (arith, q.1)) s.1 in
      let u = skip (NumberWithin 6 6) (open_edge f (order_list f)) (faces_cause v f) Inverted (only_open v f (order_list f)) (λ q. omega (arith, q.1)) t.1 in
      let w = skip (NumberWithin 7 7) (degenerate_face v f) (inverted v f) Inverted (only_degenerate v f) (λ q. omega (arith, q.1)) u.1 in
      (s.0, none-closed f (sound-body v f n s.0).faces t.0 u.0, none_degenerate v f w.0, not-positive v f w.1)

  pub inverts : Sound v f n → Closed f → ((k : ℕ) → k < face_count f → is_zero (normal v f k) ≡ false) → lt 0·0 (volume v f) ≡ false → check_mesh v f n ≡ Err Inverted
  unfolding order_cause faces_cause inverted
  inverts s c d p = let z = closed_none f (sound-body v f n s).faces c in answer s (Err Inverted) (rw (z.0, z.1, degenerate_none v f d, p))

-- ---- what `check_surface` leaves

module _ (v : List Float) (f : List ℕ) where
  pub checked : (n : ℕ) → Counted v f n → surface_cause v f ≡ Ok tt → Checked v f
  unfolding surface_cause
  checked n h e =
      let a = both (no_such_vertex (vertex_count v) f) (order_cause v f (order_list f)) e in
      let b = is_body v f n h (none-vertex v f a.0) in
      let s = none-order v f b.faces a.1 in
      record { body = b; closed = s.0; normals = s.1; positive = s.2 }

  pub checks : Checked v f → surface_cause v f ≡ Ok tt
  unfolding surface_cause
  checks h = rw (vertex-none v f h.body.inside, order-none v f h.body.faces (h.closed, h.normals, h.positive))
