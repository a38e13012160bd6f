-- The writer's causes in the steps of the code, and what they leave of work and out. Assumes nothing.
use mathlib.Core.Path.{◌≡◌, refl, sym, ap, ap₂, ◌∙◌, subst}
use mathlib.Core.Bool.{Bool, true, false, ◌&&◌, cond}
use mathlib.Core.List.{List, ◌++◌}
use Prim.Native.Nat.{ℕ, ◌+◌, ◌*◌, ◌-◌, ◌≤◌}
use native.Mathlib.Omega.{arith}
use lib.Dec.{leb}
use lib.Ieee.{Float}
use lib.ListN.{length, take, drop, replicate}
use lib.Seq.{length-take-le, take-append-add, take_at, drop_at, drop-drop}
use borrow.Rule.Slice.PartMut.{mid_of, post_of, put_mid, same_len_mid, mid_len, put_same, drop_put}
use Rattle.std.specs.Prelude.{Ok, Err}
use Rattle.refusals.specs.Answer.{Answer, or_answer}
use Rattle.refusals.specs.Causes.{Cause}
use Rattle.refusals.specs.Causes.{or_else, unless, first_of}
use Rattle.refusals.specs.declared.Refusal.{Refusal}
use Rattle.refusals.specs.declared.Refusal.TheVariants.{Malformed, TooMany, TooShort, OutOfLimits, TooThin}
use Rattle.refusals.proofs.Causes.{both}
use Rattle.mesh_orders.specs.Edges.{max_vertices, max_faces, max_stations}
use Rattle.mesh_orders.specs.Order.{order_list}
use Rattle.mesh_orders.specs.OrderLaws.{order-length}
use Rattle.mesh_orders.specs.Mates.{mates}
use Rattle.newtonian.specs.Vectors.{vector_within_limits}
use Rattle.mesh.specs.Surface.{vertex}
use Rattle.mesh.specs.Check.{order_cause, leaves_work, work_after}
use Rattle.mesh.specs.Check as mesh
use Rattle.mesh.specs.Accepted.{Counted}
use Rattle.mesh_laws.proofs.Laws.{solid-volume, solid-refused}
use Rattle.mesh_check.specs.CheckedMates.{mates_after}
use Rattle.sheet_layout.specs.LittleEndian.{pack}
use Rattle.sheet_layout.proofs.Lists.{pack-length}
use Rattle.sheet_layout.proofs.Stores.{sets_all}
use Rattle.prism.specs.Prism.{sides_within_limits}
use Rattle.sheet_rows.specs.Kinds.{is_mesh, within_counts}
use Rattle.sheet.specs.Input.{SheetInput, vertex_count, face_count, station_count}
use Rattle.sheet.specs.Bytes.{volume, sheet_size, sheet_bytes}
use Rattle.sheet.specs.Writer.{malformed, too_many, too_short, out_of_limits, no_such_vertex, too_thin, body_cause, station_cause, writer_cause, zeroes_out, out_after}
use Rattle.sheet.specs.Promises.{Typed, Kept}
use Rattle.sheet_laws.specs.WriterLaws.{none-malformed, none-many, none_short, not-mesh, body_of, no_cause, cause-none}
use Rattle.sheet_laws.specs.Demand3.{kept, sheet_length}
use Rattle.sheet_laws.specs.OrderAndMates.{mates-length}
use Rattle.writer_causes.specs.LengthsCause.{well_formed, lengths_cause}
use Rattle.sheet_body.specs.BodyChecked.{check_body_cause, BodyChecked}
use Rattle.writer_parts.specs.PartsPut.{MatesStand}
use Rattle.writer_put_sheet.specs.Put.{sheet_or_zeros, SheetPut, Prepared}
use Rattle.writer.specs.Written.{write_sheet, Writes}
use Rattle.writer.specs.Steps.{late_cause, Leaves}
use Rattle.writer.proofs.Refusals.{Of, Early, LeavesOut, Late, of_refused, of_else, of_unless, of_limits, of_vertex, of_order, of_stations}

-- ---- what the refusals leave

module _ (s : SheetInput) where
  thin_out : Of LeavesOut (too_thin s)
  unfolding too_thin
  thin_out = of_unless LeavesOut (sides_within_limits (vertex s.vertices 0) (vertex s.vertices 1)) TooThin refl

  body-out : (b : Bool) → Of LeavesOut (cond b (order_cause s.vertices s.faces (order_list s.faces)) (too_thin s))
  body-out true = of_order s.vertices s.faces (order_list s.faces)
  body-out false = thin_out

  solid-out : Of LeavesOut (check_body_cause s)
  unfolding no_such_vertex body_cause
  solid-out = of_else LeavesOut (no_such_vertex s) (body_cause s) (of_vertex (vertex_count s) s.faces) (body-out (is_mesh s.kind))

  pub count_early : (w o : ℕ) → Of Early (lengths_cause s w o)
  unfolding malformed too_many too_short leaves_work
  count_early w o =
      of_else Early (malformed s) (or_else (too_many s) (too_short s w o)) (of_unless Early (well_formed s.kind (length s.vertices) (length s.faces) (length s.stations)) Malformed (refl, refl))
      (of_else Early (too_many s) (too_short s w o) (of_unless Early (within_counts (vertex_count s) (face_count s) (station_count s)) TooMany (refl, refl)) (of_unless Early (leb (length s.faces) w && leb (sheet_size s) o) TooShort (refl, refl)))

  pub limits_early : Of Early (out_of_limits s)
  unfolding out_of_limits leaves_work
  limits_early =
      let fields = vector_within_limits s.magnetisation && vector_within_limits s.ambient in
      of_else Early (mesh.out_of_limits s.vertices) (or_else (unless fields OutOfLimits) (mesh.out_of_limits s.stations)) (of_limits s.vertices)
      (of_else Early (unless fields OutOfLimits) (mesh.out_of_limits s.stations) (of_unless Early fields OutOfLimits (refl, refl)) (of_limits s.stations))

  -- out is as it was
  out-left : (r : Refusal) (o : List ℕ) → zeroes_out r ≡ false → out_after s (Err r) o ≡ o
  unfolding out_after
  out-left r o e = ap (λ (b : Bool). cond b (replicate (sheet_size s) 0 ++ drop (sheet_size s) o) o) e

  -- both are as they were
  pub untouched : (c : Cause) (r : Refusal) (w o : List ℕ) → c ≡ Err r → Early r → Leaves s c w o (Err r) w o
  unfolding work_after
  untouched c r w o e h = record {
    answer = sym (ap (λ (d : Cause). or_answer d (Ok (sheet_size s))) e);
    work = sym (ap (λ (d : Cause). work_after d s.faces w) e ∙ ap (λ (b : Bool). cond b w (order_list s.faces ++ drop (length s.faces) w)) h.0);
    out = sym (ap (λ (d : Cause). out_after s d o) e ∙ out-left r o h.1);
  }

  -- the sheet or zeros stand in front of out, and work holds the order list
  late_out : (c : Cause) → Of Late c → (o : List ℕ) → sheet_or_zeros s c ++ drop (sheet_size s) o ≡ out_after s c o
  unfolding sheet_or_zeros out_after
  late_out (Ok _) h o = refl
  late_out (Err r) h o = sym (ap (λ (b : Bool). cond b (replicate (sheet_size s) 0 ++ drop (sheet_size s) o) o) h.1)

  late_work : (c : Cause) → Of Late c → (w : List ℕ) → work_after (Ok tt) s.faces w ≡ work_after c s.faces w
  unfolding work_after
  late_work (Ok _) h w = refl
  late_work (Err r) h w = sym (ap (λ (b : Bool). cond b w (order_list s.faces ++ drop (length s.faces) w)) h.0)

  order-front : (w : List ℕ) → take (length s.faces) (work_after (Ok tt) s.faces w) ≡ order_list s.faces
  unfolding work_after
  order-front w = take_at (order_list s.faces) (drop (length s.faces) w) (length s.faces) (order-length s.faces)

-- ---- a part of a list that was lent and is back

-- it stands in the first n entries
put-stands : (a e n k : ℕ) (o y : List ℕ) → e ≡ a + k → e ≤ n → e ≤ length o → length y ≡ k → take k (drop a (take n (put_mid a (e - a) o y))) ≡ y
put-stands a e n k o y z h g l =
    ap (λ (m : ℕ). take k (drop a (take m (put_mid a (e - a) o y)))) count
    ∙ ap (λ (x : List ℕ). take k (drop a x)) (take-append-add (take a o) (y ++ rest) (length y + (n - e)) ∙ ap (λ (x : List ℕ). take a o ++ x) (take-append-add y rest (n - e)))
    ∙ ap (take k) (drop_at (take a o) (y ++ take (n - e) rest) a before) ∙ take_at y (take (n - e) rest) k l
  where
    rest : List ℕ
    rest = post_of a (e - a) o

    before : length (take a o) ≡ a
    before = length-take-le a o (omega arith)

    count : n ≡ length (take a o) + (length y + (n - e))
    count = omega (arith, before)

-- and what lies past them is as it was
put_leaves : (a e n : ℕ) (o y : List ℕ) → a ≤ e → e ≤ n → e ≤ length o → length y ≡ e - a → drop n (put_mid a (e - a) o y) ≡ drop n o
put_leaves a e n o y b h g l =
    ap (λ (m : ℕ). drop m (put_mid a (e - a) o y)) count ∙ sym (drop-drop (n - e) e (put_mid a (e - a) o y)) ∙ ap (drop (n - e)) (drop_put a e o y b g l) ∙ drop-drop (n - e) e o
    ∙ ap (λ (m : ℕ). drop m o) (sym count)
  where
    count : n ≡ e + (n - e)
    count = omega arith

-- ---- a sheet whose counts are within the limits

module _ (s : SheetInput) (w o : List ℕ) (ok : lengths_cause s (length w) (length o) ≡ Ok tt) where
  is_well_formed : malformed s ≡ Ok tt
  is_well_formed = (both (malformed s) (or_else (too_many s) (too_short s (length w) (length o))) ok).0

  rest : (too_many s ≡ Ok tt) × (too_short s (length w) (length o) ≡ Ok tt)
  rest = both (too_many s) (too_short s (length w) (length o)) (both (malformed s) (or_else (too_many s) (too_short s (length w) (length o))) ok).1

  pub room : (length s.faces ≤ length w) × (sheet_size s ≤ length o)
  room = none_short s (length w) (length o) rest.1

  pub few : (vertex_count s ≤ max_vertices) × (face_count s ≤ max_faces) × (station_count s ≤ max_stations)
  few = let n = none-many s rest.0 in (n.0, n.1.0, n.1.1)

  counted : Counted s.vertices s.faces (length w) × (is_mesh s.kind ≡ false → (length s.vertices ≡ 6) × (length s.faces ≡ 0))
  counted =
      let m = none-malformed s is_well_formed in
      (record { coordinates = m.0; corners = m.1.0; vertices = few.0; faces = few.1; room = room.0 }, λ z. (not-mesh s is_well_formed z).1)

  -- the bytes of out that are lent for the mates, and out with others in their place
  abbrev at : ℕ
  at = 8 * length s.vertices + 8 * length s.faces

  abbrev end : ℕ
  end = at + 4 * length s.faces

  abbrev pub lent : List ℕ
  lent = mid_of at (end - at) o

  abbrev pub back : List ℕ → List ℕ
  back y = put_mid at (end - at) o y

  mates-fit : end ≤ sheet_size s
  mates-fit = let m = none-malformed s is_well_formed in omega (arith, m.0, m.1.0)

  pub mates-within : end ≤ length o
  mates-within = omega (arith, mates-fit, room.1)

  lent-size : length lent ≡ 4 * length s.faces
  lent-size = mid_len at end o mates-within ∙ omega arith

  -- what `check_body` asks
  pub asked : Counted s.vertices s.faces (length w) × (is_mesh s.kind ≡ false → (length s.vertices ≡ 6) × (length s.faces ≡ 0)) × (length lent ≡ 4 * length s.faces)
  asked = (counted.0, counted.1, lent-size)

  mates-bytes : length (pack 4 (mates s.faces)) ≡ 4 * length s.faces
  mates-bytes = pack-length 4 (mates s.faces) ∙ ap (λ (n : ℕ). 4 * n) (mates-length s.faces)

  module _ {r : Answer Float} {p y : List ℕ} (h : BodyChecked s w lent r p y) where
    -- the body is refused
    pub body_refused : (q : Refusal) → r ≡ Err q → Leaves s (late_cause s) w o (Err q) p (back y)
    unfolding mates_after
    body_refused q e =
        let f = solid-refused (check_body_cause s) (volume s) q (sym h.answer ∙ e) in
        let g = ap (λ (d : Cause). or_else d (first_of (station_count s) (station_cause s))) f in
        record {
          answer = sym (ap (λ (d : Cause). or_answer d (Ok (sheet_size s))) g);
          work = h.work ∙ ap (λ (d : Cause). work_after d s.faces w) (f ∙ sym g);
          out = ap back (h.mates ∙ ap (λ (d : Cause). mates_after d s.faces lent) f) ∙ put_same at (end - at) o ∙ sym (ap (λ (d : Cause). out_after s d o) g ∙ out-left s q o (of_refused LeavesOut (check_body_cause s) q (solid-out s) f));
        }

    -- it is not
    module _ (x : Float) (e : r ≡ Ok x) where
      solid : (check_body_cause s ≡ Ok tt) × (x ≡ volume s)
      solid = solid-volume (check_body_cause s) (volume s) x (sym h.answer ∙ e)

      held : p ≡ work_after (Ok tt) s.faces w
      held = h.work ∙ ap (λ (d : Cause). work_after d s.faces w) solid.0

      order : take (length s.faces) p ≡ order_list s.faces
      order = ap (take (length s.faces)) held ∙ order-front s w

      pub order-size : length (take (length s.faces) p) ≡ length s.faces
      order-size = ap length order ∙ order-length s.faces

      -- the bytes are the mates
      mated : y ≡ pack 4 (mates s.faces)
      unfolding mates_after
      mated = h.mates ∙ ap (λ (d : Cause). mates_after d s.faces lent) solid.0 ∙ sets_all lent (pack 4 (mates s.faces)) (mates-bytes ∙ sym lent-size)

      mated-size : length y ≡ 4 * length s.faces
      mated-size = ap length mated ∙ mates-bytes

      pub back-size : length (back y) ≡ length o
      back-size = same_len_mid at (end - at) o y (mated-size ∙ sym lent-size)

      pub sheet_fits : (n : ℕ) → n ≡ sheet_size s → n ≤ length (back y)
      sheet_fits n m = omega (arith, m, room.1, back-size)

      pub stand : (n : ℕ) → n ≡ sheet_size s → MatesStand (length s.vertices) s.faces (take n (back y))
      stand n z = put-stands at end n (4 * length s.faces) o y (omega arith) (omega (arith, mates-fit)) mates-within mated-size ∙ mated

      pub prepared : (n : ℕ) → n ≡ sheet_size s → Prepared s (take (length s.faces) p) x n
      prepared n z =
          let m = none-malformed s is_well_formed in
          let body = body_of s is_well_formed rest.0 (both (no_such_vertex s) (body_cause s) solid.0).0 in
          record {
            coordinates = m.0;
            triples = m.1.1.0;
            vertices = few.0;
            stations = few.2;
            faces = body.faces;
            body = λ y. body;
            corners = λ y. omega (arith, (not-mesh s is_well_formed y).1.0);
            order = order;
            measured = solid.1;
            room = z;
          }

      pub put : (c : Cause) (n : ℕ) {a : Answer ℕ} {q : List ℕ} → n ≡ sheet_size s → SheetPut s c q → a ≡ or_answer c (Ok n) → Leaves s (late_cause s) w o a p (q ++ drop n (back y))
      put c n {q = q} z g a =
          let stations = first_of (station_count s) (station_cause s) in
          let f : late_cause s ≡ stations = ap (λ (d : Cause). or_else d stations) solid.0 in
          record {
            answer = a ∙ ap₂ (λ (d : Cause) (k : ℕ). or_answer d (Ok k)) (g.cause ∙ sym f) z;
            work = held ∙ late_work s stations (of_stations s) w ∙ ap (λ (d : Cause). work_after d s.faces w) (sym f);
            out = ap (λ (x : List ℕ). q ++ x) (put_leaves at end n o y (omega arith) (omega (arith, mates-fit)) mates-within (mated-size ∙ omega arith)) ∙ ap₂ (λ (x : List ℕ) (k : ℕ). x ++ drop k o) (g.bytes ∙ ap (sheet_or_zeros s) g.cause) z ∙ late_out s stations (of_stations s) o ∙ ap (λ (d : Cause). out_after s d o) (sym f);
          }

-- a cause is an equal one
leaves_same : {s : SheetInput} {c d : Cause} {w o p q : List ℕ} {r : Answer ℕ} → d ≡ c → Leaves s c w o r p q → Leaves s d w o r p q
leaves_same {s} {w = w} {o = o} {p = p} {q = q} {r = r} e h = subst (λ (x : Cause). Leaves s x w o r p q) (sym e) h

-- ---- all causes

assoc : (c d e : Cause) → or_else (or_else c d) e ≡ or_else c (or_else d e)
assoc (Ok _) d e = refl
assoc (Err r) d e = refl

module _ (s : SheetInput) (w o : ℕ) where
  -- in the steps of the code
  in_steps : writer_cause s w o ≡ or_else (lengths_cause s w o) (or_else (out_of_limits s) (late_cause s))
  unfolding writer_cause
  in_steps =
      let stations = first_of (station_count s) (station_cause s) in
      sym (assoc (malformed s) (or_else (too_many s) (too_short s w o)) (or_else (out_of_limits s) (late_cause s))
      ∙ ap (or_else (malformed s)) (assoc (too_many s) (too_short s w o) (or_else (out_of_limits s) (late_cause s)))
      ∙ ap (λ (c : Cause). or_else (malformed s) (or_else (too_many s) (or_else (too_short s w o) (or_else (out_of_limits s) c)))) (assoc (no_such_vertex s) (body_cause s) stations))

-- ---- demand 3

no_refusal : (c : Cause) (m n : ℕ) → or_answer c (Ok m) ≡ Ok n → c ≡ Ok tt
no_refusal (Ok _) m n e = refl
no_refusal (Err r) m n e = absurd (let z : ◌≡◌ {A = ℕ} 0 1 = cc in omega arith)

module _ (s : SheetInput) (ty : Typed s) (w o : List ℕ) {r : Answer ℕ} {p q : List ℕ} (h : Leaves s (writer_cause s (length w) (length o)) w o r p q) where
  none : (n : ℕ) → r ≡ Ok n → writer_cause s (length w) (length o) ≡ Ok tt
  none n e = no_refusal (writer_cause s (length w) (length o)) (sheet_size s) n (sym h.answer ∙ e)

  is-kept : (n : ℕ) → r ≡ Ok n → Kept s (take (sheet_size s) q)
  unfolding out_after
  is-kept n e =
      let z = none n e in
      let front : q ≡ sheet_bytes s ++ drop (sheet_size s) o = h.out ∙ ap (λ (c : Cause). out_after s c o) z in
      subst (Kept s) (sym (ap (take (sheet_size s)) front ∙ take_at (sheet_bytes s) (drop (sheet_size s) o) (sheet_size s) (sheet_length s (length w) (length o) ty z)))
      (kept s (length w) (length o) ty z)

  -- what the equations promise of a written sheet
  writes : Writes s w o r p q
  unfolding write_sheet
  writes = record {
    answer = h.answer;
    work = h.work;
    out = h.out;
    kept = is-kept;
    only = λ n e. no_cause s (length w) (length o) (none n e);
    always = λ k. h.answer ∙ ap (λ (c : Cause). or_answer c (Ok (sheet_size s))) (cause-none s (length w) (length o) k);
  }

-- ---- the returns of `write_sheet`

module _ (s : SheetInput) (ty : Typed s) (w o : List ℕ) where
  counts_first : (c : Cause) → lengths_cause s (length w) (length o) ≡ c → writer_cause s (length w) (length o) ≡ or_else c (or_else (out_of_limits s) (late_cause s))
  counts_first c p = in_steps s (length w) (length o) ∙ ap (λ (d : Cause). or_else d (or_else (out_of_limits s) (late_cause s))) p

  then_limits : (c : Cause) → lengths_cause s (length w) (length o) ≡ Ok tt → out_of_limits s ≡ c → writer_cause s (length w) (length o) ≡ or_else c (late_cause s)
  then_limits c p e = counts_first (Ok tt) p ∙ ap (λ (d : Cause). or_else d (late_cause s)) e

  pub by_counts : (r : Refusal) → lengths_cause s (length w) (length o) ≡ Err r → Writes s w o (Err r) w o
  by_counts r e =
      writes s ty w o
      (untouched s (writer_cause s (length w) (length o)) r w o (counts_first (Err r) e) (of_refused Early (lengths_cause s (length w) (length o)) r (count_early s (length w) (length o)) e))

  pub by_limits : (r : Refusal) → lengths_cause s (length w) (length o) ≡ Ok tt → out_of_limits s ≡ Err r → Writes s w o (Err r) w o
  by_limits r p e =
      writes s ty w o (untouched s (writer_cause s (length w) (length o)) r w o (then_limits (Err r) p e) (of_refused Early (out_of_limits s) r (limits_early s) e))

  pub later : {r : Answer ℕ} {p q : List ℕ} → lengths_cause s (length w) (length o) ≡ Ok tt → out_of_limits s ≡ Ok tt → Leaves s (late_cause s) w o r p q → Writes s w o r p q
  later n e h = writes s ty w o (leaves_same (then_limits (Ok tt) n e) h)
