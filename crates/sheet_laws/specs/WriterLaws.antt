-- The writer's causes as plain statements: none of them holds exactly where each is denied by itself (`no_cause`, `cause-none`, at the end; above them cause by
-- cause). Assumes nothing.
use Rattle.std.specs.Prelude.{◌≡◌, Bool, false, ◌&&◌, ◌||◌, ◌⊎◌, ℕ, zero, suc, ◌%◌, ◌≤◌, ◌<◌, leb, length, get_or, Float}
use Rattle.std.proofs.Math.Path.{refl}
use Rattle.std.proofs.Common.{sym, ◌∙◌, subst, not-suc-le-zero, arith}
use Rattle.std.proofs.Math.Bool.{true}
use mathlib.Core.List.{List, [], ◌∷◌}
use Rattle.std.proofs.Math.Logic.{inl, inr, ⊎_elim}
use Rattle.std.proofs.Math.Nat.{le_refl}
use Rattle.std.proofs.Math.Dec.{eqb}
use Rattle.std.specs.Float.{nan}
use Rattle.std.specs.Float.Ieee.{lt}
use Rattle.std.specs.Float.Ieee.Scale.{finite}
use borrow.Author.Tests.{eq-eqb, eqb-true, le-leb, leb-true}
use Rattle.doubles.specs.Constants.{0·0}
use Rattle.doubles.specs.Magnitude.{within_limits}
use Rattle.std.specs.Prelude.{Ok, Err}
use Rattle.refusals.specs.Answer.{Answer}
use Rattle.refusals.specs.Causes.{or_else, unless}
use Rattle.refusals.specs.declared.Refusal.TheVariants.{Malformed, TooMany, TooShort, OutOfLimits, TooThin, NotFinite}
use Rattle.refusals.proofs.Causes.{from_both, holds, passes, each, from_each}
use Rattle.refusals.proofs.Causes as causes
use Rattle.lists.specs.Count.{Below}
use Rattle.lists.proofs.Numbers.{both, true≢false}
use Rattle.mesh_orders.specs.Edges.{max_vertices, max_faces, max_stations, occurrences}
use Rattle.newtonian.specs.declared.Vector.{Vector}
use Rattle.newtonian.specs.Vectors.{vector_within_limits}
use Rattle.mesh.specs.Surface.{Body, vertex, normal, is_zero}
use Rattle.mesh.specs.Check.{surface_cause}
use Rattle.mesh.specs.Check as mesh
use Rattle.mesh.specs.Accepted.{Counted}
use Rattle.mesh.specs.CauseLaws.{is_body, none_limits, limits_none, none-vertex, vertex-none}
use Rattle.mesh_laws.specs.ClosedLaws.{closed_pairs, pairs_closed}
use Rattle.mesh_laws.proofs.Laws.{checked, checks}
use Rattle.prism.specs.Prism.{sides_within_limits, side_within_limits}
use Rattle.sheet_rows.specs.Kinds.{is_mesh, is_prism, known_kind, within_counts}
use Rattle.sheet_rows.proofs.Counts.{counts_each}
use Rattle.sheet_rows.proofs.KindLaws.{prism_no_mesh}
use Rattle.sheet_rows.specs.Row.{all_finite, is_finite_row, row_numbers, row_cause}
use Rattle.sheet_rows.specs.declared.Row.{Row}
use Rattle.sheet.specs.Input.{SheetInput, vertex_count, face_count, station_count, row_at}
use Rattle.sheet.specs.Bytes.{sheet_size, volume}
use Rattle.sheet.specs.Writer.{malformed, too_many, too_short, out_of_limits, no_such_vertex, too_thin, body_cause, station_cause, writer_cause}
use Rattle.sheet.specs.Promises.{VectorInLimits, AllInLimits, SideInLimits, FiniteRow, KindKnown, NoCause}

-- ---- tests

either : (a b : Bool) → (a || b) ≡ true → (a ≡ true) ⊎ (b ≡ true)
either true b e = inl refl
either false b e = inr e

and : (a b : Bool) → a ≡ true → b ≡ true → (a && b) ≡ true
and a b p q = rw (p, q)

is_in_limits : (v : Vector) → vector_within_limits v ≡ true → VectorInLimits v
unfolding vector_within_limits
is_in_limits v e =
    let t = both (within_limits v.x && within_limits v.y) (within_limits v.z) e in
    let u = both (within_limits v.x) (within_limits v.y) t.0 in
    record { x = u.0; y = u.1; z = t.1 }

pub limits_in : (v : Vector) → VectorInLimits v → vector_within_limits v ≡ true
unfolding vector_within_limits
limits_in v h = rw (h.x, h.y, h.z)

-- ---- rows

finite_each : (xs : List Float) → all_finite xs ≡ true → (j : ℕ) → j < length xs → finite (get_or xs j nan) ≡ true
finite_each [] e j l = absurd (not-suc-le-zero l)
finite_each (x ∷ xs) e zero l = (both (finite x) (all_finite xs) e).0
finite_each (x ∷ xs) e (suc j) l = finite_each xs (both (finite x) (all_finite xs) e).1 j (omega arith)

each_finite : (xs : List Float) → ((j : ℕ) → j < length xs → finite (get_or xs j nan) ≡ true) → all_finite xs ≡ true
each_finite [] h = refl
each_finite (x ∷ xs) h = and (finite x) (all_finite xs) (h 0 (omega arith)) (each_finite xs (λ j l. h (suc j) (omega arith)))

none_row : (s : SheetInput) (i : ℕ) (a : Answer Row) → row_at s i ≡ a → row_cause s.kind i a ≡ Ok tt → FiniteRow s i
unfolding row_cause is_finite_row
none_row s i (Ok r) q h = record { row = r; given = q; numbers = finite_each (row_numbers s.kind r) (holds _ (NotFinite i) h) }
none_row s i (Err r) q h = absurd (let z : ◌≡◌ {A = ℕ} 0 1 = cc in omega arith)

-- ---- the body's causes, denied

pub record BodyFacts (s : SheetInput) : Type 0 where
  pub once : (a b : ℕ) → occurrences s.faces a b ≤ 1
  pub back : (a b : ℕ) → 1 ≤ occurrences s.faces a b → 1 ≤ occurrences s.faces b a
  pub normals : is_mesh s.kind ≡ true → (k : ℕ) → k < face_count s → is_zero (normal s.vertices s.faces k) ≡ false
  pub positive : is_mesh s.kind ≡ true → lt 0·0 (volume s) ≡ true
  pub side_x : is_prism s.kind ≡ true → SideInLimits (vertex s.vertices 0).x (vertex s.vertices 1).x
  pub side_y : is_prism s.kind ≡ true → SideInLimits (vertex s.vertices 0).y (vertex s.vertices 1).y
  pub side_z : is_prism s.kind ≡ true → SideInLimits (vertex s.vertices 0).z (vertex s.vertices 1).z

pub two_kinds : (kind : ℕ) → is_mesh kind ≡ true → is_prism kind ≡ true → ⊥
two_kinds kind m p = true≢false (sym m ∙ prism_no_mesh kind p)

no_edges : (f : List ℕ) → length f ≡ 0 → (a b : ℕ) → occurrences f a b ≡ 0
unfolding occurrences
no_edges [] e a b = refl
no_edges (x ∷ f) e a b = absurd (omega arith)

module _ (s : SheetInput) where
  -- ---- 1

  pub none-malformed : malformed s ≡ Ok tt → (length s.vertices % 3 ≡ 0) × ((length s.faces % 3 ≡ 0) × ((length s.stations % 3 ≡ 0) × KindKnown s))
  unfolding malformed known_kind
  none-malformed e =
      let k = s.kind in
      let prism = is_prism k && (eqb (vertex_count s) 2 && eqb (face_count s) 0) in
      let t = both (eqb (length s.vertices % 3) 0) (eqb (length s.faces % 3) 0 && (eqb (length s.stations % 3) 0 && (is_mesh k || prism))) (holds _ Malformed e) in
      let u = both (eqb (length s.faces % 3) 0) (eqb (length s.stations % 3) 0 && (is_mesh k || prism)) t.1 in
      let v = both (eqb (length s.stations % 3) 0) (is_mesh k || prism) u.1 in
      let prismatic : prism ≡ true → KindKnown s =
      λ q. let a = both (is_prism k) (eqb (vertex_count s) 2 && eqb (face_count s) 0) q in
      let c = both (eqb (vertex_count s) 2) (eqb (face_count s) 0) a.1 in
      inr (a.0, (eqb-true (vertex_count s) 2 c.0, eqb-true (face_count s) 0 c.1)) in
      (eqb-true _ 0 t.0, (eqb-true _ 0 u.0, (eqb-true _ 0 v.0, ⊎_elim (λ q. inl q) prismatic (either (is_mesh k) prism v.1))))

  known-kind : KindKnown s → known_kind s.kind (vertex_count s) (face_count s) ≡ true
  unfolding known_kind
  known-kind (inl e) = rw e
  known-kind (inr (e, (v, f))) = rw (prism_no_mesh s.kind e, e, eq-eqb (vertex_count s) 2 v, eq-eqb (face_count s) 0 f)

  malformed-none : length s.vertices % 3 ≡ 0 → length s.faces % 3 ≡ 0 → length s.stations % 3 ≡ 0 → KindKnown s → malformed s ≡ Ok tt
  unfolding malformed
  malformed-none p q r k = rw (eq-eqb (length s.vertices % 3) 0 p, eq-eqb (length s.faces % 3) 0 q, eq-eqb (length s.stations % 3) 0 r, known-kind k)

  -- ---- 2 and 12

  pub none-many : too_many s ≡ Ok tt → (vertex_count s ≤ max_vertices) × ((face_count s ≤ max_faces) × (station_count s ≤ max_stations))
  unfolding too_many
  none-many e =
      let t = counts_each (vertex_count s) (face_count s) (station_count s) (holds _ TooMany e) in
      (t.0, (t.1, t.2))

  many-none : vertex_count s ≤ max_vertices → face_count s ≤ max_faces → station_count s ≤ max_stations → too_many s ≡ Ok tt
  unfolding too_many within_counts
  many-none p q r = rw (le-leb (vertex_count s) max_vertices p, le-leb (face_count s) max_faces q, le-leb (station_count s) max_stations r)

  pub none_short : (w o : ℕ) → too_short s w o ≡ Ok tt → (length s.faces ≤ w) × (sheet_size s ≤ o)
  unfolding too_short
  none_short w o e =
      let t = both (leb (length s.faces) w) (leb (sheet_size s) o) (holds _ TooShort e) in
      (leb-true _ _ t.0, leb-true _ _ t.1)

  pub short_none : (w o : ℕ) → length s.faces ≤ w → sheet_size s ≤ o → too_short s w o ≡ Ok tt
  unfolding too_short
  short_none w o p q = rw (le-leb (length s.faces) w p, le-leb (sheet_size s) o q)

  -- ---- 3

  pub none_limits_all : out_of_limits s ≡ Ok tt → AllInLimits s.vertices × (VectorInLimits s.magnetisation × (VectorInLimits s.ambient × AllInLimits s.stations))
  unfolding out_of_limits
  none_limits_all e =
      let m = vector_within_limits s.magnetisation in
      let a = vector_within_limits s.ambient in
      let t = causes.both (mesh.out_of_limits s.vertices) (or_else (unless (m && a) OutOfLimits) (mesh.out_of_limits s.stations)) e in
      let u = causes.both (unless (m && a) OutOfLimits) (mesh.out_of_limits s.stations) t.1 in
      let v = both m a (holds (m && a) OutOfLimits u.0) in
      (none_limits s.vertices [] t.0, (is_in_limits s.magnetisation v.0, (is_in_limits s.ambient v.1, none_limits s.stations [] u.1)))

  limits_none-all : AllInLimits s.vertices → VectorInLimits s.magnetisation → VectorInLimits s.ambient → AllInLimits s.stations → out_of_limits s ≡ Ok tt
  unfolding out_of_limits
  limits_none-all p m a q = rw (limits_none s.vertices [] p, limits_in s.magnetisation m, limits_in s.ambient a, limits_none s.stations [] q)

  -- ---- 4

  pub none-vertex-all : no_such_vertex s ≡ Ok tt → Below s.faces (vertex_count s)
  unfolding no_such_vertex
  none-vertex-all e = none-vertex s.vertices s.faces e

  vertex-none-all : Below s.faces (vertex_count s) → no_such_vertex s ≡ Ok tt
  unfolding no_such_vertex
  vertex-none-all h = vertex-none s.vertices s.faces h

  -- ---- 10, 11 and 13

  pub none-station : (i : ℕ) → station_cause s i ≡ Ok tt → FiniteRow s i
  unfolding station_cause
  none-station i e = none_row s i (row_at s i) refl e

  pub station-none : (i : ℕ) → FiniteRow s i → station_cause s i ≡ Ok tt
  unfolding station_cause row_cause is_finite_row
  station-none i h = rw h.given (passes (all_finite (row_numbers s.kind h.row)) (NotFinite i) (each_finite (row_numbers s.kind h.row) h.numbers))

  -- ---- 5 to 8, or 9

  -- 1 and 2 of the mesh alone
  pub counted : malformed s ≡ Ok tt → too_many s ≡ Ok tt → Counted s.vertices s.faces (length s.faces)
  counted p q =
      let m = none-malformed p in
      let n = none-many q in
      record { coordinates = m.0; corners = m.1.0; vertices = n.0; faces = n.1.0; room = le_refl (length s.faces) }

  mesh-body : Counted s.vertices s.faces (length s.faces) → no_such_vertex s ≡ Ok tt → is_mesh s.kind ≡ true → body_cause s ≡ Ok tt → BodyFacts s
  unfolding body_cause no_such_vertex surface_cause volume
  mesh-body c v k e =
      let f = s.faces in
      let h = checked s.vertices f (length f) c (from_both (mesh.no_such_vertex (vertex_count s) f) _ v (rw k at e)) in
      let q = closed_pairs f h.closed in
      record {
        once = q.once;
        back = q.back;
        normals = λ z. h.normals;
        positive = λ z. rw k h.positive;
        side_x = λ z. absurd (two_kinds s.kind k z);
        side_y = λ z. absurd (two_kinds s.kind k z);
        side_z = λ z. absurd (two_kinds s.kind k z);
      }

  pub body-mesh : Counted s.vertices s.faces (length s.faces) → Below s.faces (vertex_count s) → is_mesh s.kind ≡ true → BodyFacts s → body_cause s ≡ Ok tt
  unfolding body_cause surface_cause volume
  body-mesh c i k h =
      let v = s.vertices in
      let f = s.faces in
      let e = checks v f (record {
        body = is_body v f (length f) c i;
        closed = pairs_closed f (record { once = h.once; back = h.back });
        normals = h.normals k;
        positive = rw k at (h.positive k);
      }) in
      rw k (causes.both (mesh.no_such_vertex (vertex_count s) f) _ e).1

  prism-body : length s.faces % 3 ≡ 0 → is_prism s.kind ≡ true → face_count s ≡ 0 → body_cause s ≡ Ok tt → BodyFacts s
  unfolding body_cause too_thin sides_within_limits side_within_limits
  prism-body c k n e =
      let lo = vertex s.vertices 0 in
      let hi = vertex s.vertices 1 in
      let side = side_within_limits in
      let t = both (side lo.x hi.x) (side lo.y hi.y && side lo.z hi.z) (holds _ TooThin (rw (prism_no_mesh s.kind k) at e)) in
      let u = both (side lo.y hi.y) (side lo.z hi.z) t.1 in
      let none = no_edges s.faces (omega arith) in
      record {
        once = λ a b. omega (arith, none a b);
        back = λ a b l. absurd (omega (arith, none a b));
        normals = λ z. absurd (two_kinds s.kind z k);
        positive = λ z. absurd (two_kinds s.kind z k);
        side_x = λ z. t.0;
        side_y = λ z. u.0;
        side_z = λ z. u.1;
      }

  pub body-prism : is_prism s.kind ≡ true → BodyFacts s → body_cause s ≡ Ok tt
  unfolding body_cause too_thin sides_within_limits side_within_limits
  body-prism k h = rw (prism_no_mesh s.kind k, h.side_x k, h.side_y k, h.side_z k)

  -- ---- for the code: what the causes so far leave of the body, and the body's causes as the code finds them

  pub body_of : malformed s ≡ Ok tt → too_many s ≡ Ok tt → no_such_vertex s ≡ Ok tt → Body s.vertices s.faces
  body_of p q r = is_body s.vertices s.faces (length s.faces) (counted p q) (none-vertex-all r)

  -- 4 to 8 of a mesh are `check_surface`'s
  pub surface_cause_lem : is_mesh s.kind ≡ true → or_else (no_such_vertex s) (body_cause s) ≡ surface_cause s.vertices s.faces
  unfolding body_cause no_such_vertex surface_cause
  surface_cause_lem k = rw k

  -- a prism has no faces, and no cause but 9
  pub prism-cause : is_mesh s.kind ≡ false → length s.faces ≡ 0 → or_else (no_such_vertex s) (body_cause s) ≡ too_thin s
  unfolding body_cause
  prism-cause k n = rw (vertex-none-all (λ i l. absurd (not-suc-le-zero (subst (λ (m : ℕ). i < m) n l))), k)

  -- 1 leaves a mesh, or a prism with two vertices and no faces
  pub not-mesh : malformed s ≡ Ok tt → is_mesh s.kind ≡ false → (is_prism s.kind ≡ true) × ((length s.vertices ≡ 6) × (length s.faces ≡ 0))
  not-mesh e k =
      let m = none-malformed e in
      ⊎_elim (λ q. absurd (let z : true ≡ false = sym q ∙ k in true≢false z)) (λ q. (q.0, (omega (arith, m.0, q.1.0), omega (arith, m.1.0, q.1.1)))) m.1.1.1

  -- ---- all of them

  -- none of the writer's causes holds: then each is denied
  pub no_cause : (w o : ℕ) → writer_cause s w o ≡ Ok tt → NoCause s w o
  unfolding writer_cause
  no_cause w o e =
      let a = causes.both (malformed s) _ e in
      let b = causes.both (too_many s) _ a.1 in
      let c = causes.both (too_short s w o) _ b.1 in
      let d = causes.both (out_of_limits s) _ c.1 in
      let g = causes.both (no_such_vertex s) _ d.1 in
      let r = causes.both (body_cause s) _ g.1 in
      let m = none-malformed a.0 in
      let n = none-many b.0 in
      let room = none_short w o c.0 in
      let x = none_limits_all d.0 in
      let h = ⊎_elim (λ k. mesh-body (counted a.0 b.0) g.0 k r.0) (λ k. prism-body m.1.0 k.0 k.1.1 r.0) m.1.1.1 in
      record {
        coordinates = m.0;
        corners = m.1.0;
        triples = m.1.1.0;
        known = m.1.1.1;
        vertices = n.0;
        faces = n.1.0;
        stations = n.1.1;
        work = room.0;
        out = room.1;
        vertex-numbers = x.0;
        magnetisation = x.1.0;
        ambient = x.1.1.0;
        station-numbers = x.1.1.1;
        inside = none-vertex-all g.0;
        once = h.once;
        back = h.back;
        normals = h.normals;
        positive = h.positive;
        side_x = h.side_x;
        side_y = h.side_y;
        side_z = h.side_z;
        rows = λ i l. none-station i (each (station_count s) (station_cause s) r.1 i l);
      }

  -- each is denied: then none of them holds
  pub cause-none : (w o : ℕ) → NoCause s w o → writer_cause s w o ≡ Ok tt
  unfolding writer_cause
  cause-none w o h =
      let c : Counted s.vertices s.faces (length s.faces) =
      record { coordinates = h.coordinates; corners = h.corners; vertices = h.vertices; faces = h.faces; room = le_refl (length s.faces) } in
      let facts : BodyFacts s = record { once = h.once; back = h.back; normals = h.normals; positive = h.positive; side_x = h.side_x; side_y = h.side_y; side_z = h.side_z } in
      let solid : body_cause s ≡ Ok tt = ⊎_elim (λ k. body-mesh c h.inside k facts) (λ k. body-prism k.0 facts) h.known in
      rw (
        malformed-none h.coordinates h.corners h.triples h.known,
        many-none h.vertices h.faces h.stations,
        short_none w o h.work h.out,
        limits_none-all h.vertex-numbers h.magnetisation h.ambient h.station-numbers,
        vertex-none-all h.inside,
        solid,
      ) (from_each (station_count s) (station_cause s) (λ i l. station-none i (h.rows i l)))
