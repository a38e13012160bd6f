-- What the checker accepts is right (`right`, at the end): in every byte it is the sheet of what it holds (`whole`), and no cause of the writer's holds of that
-- (`sound`). Assumes nothing.
use Rattle.std.specs.Prelude.{◌≡◌, true, false, List, [], ◌∷◌, ℕ, zero, suc, ◌+◌, ◌*◌, ◌≤◌, ◌<◌, eqb, get_or, take, drop, Float}
use Rattle.std.proofs.Math.Path.{refl, sym, ap}
use Rattle.std.proofs.Common.{◌∙◌, le_refl}
use Rattle.std.proofs.Math.Logic.{⊎_elim}
use native.Mathlib.Omega.{arith}
use Rattle.std.proofs.Math.ListN.{length}
use Rattle.std.proofs.lemmas.List.{length-map}
use Rattle.std.specs.Float.{nan, inf, fin}
use Rattle.std.specs.Float.Ieee.{binary64, to_bits, is_nan, lt}
use borrow.Author.Tests.{eqb-true}
use Rattle.doubles.specs.Constants.{0·0}
use Rattle.doubles.specs.Magnitude.{within_limits}
use Rattle.std.specs.Prelude.{Ok}
use Rattle.refusals.specs.Causes.{first_of}
use Rattle.refusals.specs.declared.Refusal.TheVariants.{WrongVolume, WrongRow}
use Rattle.refusals.proofs.Causes.{both, holds, each, from_each}
use Rattle.mesh_orders.specs.Edges.{Faces}
use Rattle.mesh_orders.specs.Order.{order_list}
use Rattle.mesh_orders.specs.Mates.{mates}
use Rattle.mesh.specs.Surface.{vertex, normal, is_zero}
use Rattle.mesh.specs.Check as mesh
use Rattle.mesh.specs.Check.{faces_cause}
use Rattle.mesh.specs.Accepted.{Counted, Closed}
use Rattle.mesh.specs.CauseLaws.{is_body, none_degenerate, none-inverted}
use Rattle.mesh_laws.specs.ClosedLaws.{closed_pairs}
use Rattle.sheet_layout.specs.LittleEndian.{pack, unpack, bits, doubles, IsBytes}
use Rattle.sheet_layout.specs.Parts.{Part, joined}
use Rattle.sheet_layout.proofs.Bits.{bits-doubles}
use Rattle.sheet_layout.proofs.Lists.{unpack-lt, pack-unpack}
use Rattle.sheet_layout.proofs.Files.{joined-split}
use Rattle.sheet_rows.specs.Kinds.{is_mesh, is_prism, row_width}
use Rattle.sheet_rows.proofs.KindLaws.{prism_no_mesh, row_within}
use Rattle.sheet_rows.specs.Row.{row_numbers}
use Rattle.sheet_rows.specs.declared.Row.{Row}
use Rattle.newtonian.specs.Vectors.{vector_numbers}
use Rattle.sheet.specs.Input.{SheetInput, vertex_count, face_count, station_count, row_at}
use Rattle.sheet.specs.Bytes.{pointer, volume, sheet_size, numbers_of, rows, parts, sheet_bytes}
use Rattle.sheet.specs.Writer.{malformed, too_many, out_of_limits, no_such_vertex, body_cause, station_cause, writer_cause}
use Rattle.sheet.specs.Checker.{trailer, kind_in, vertices_in, faces_in, stations_in, volume_in, pointer_in, pointer_for, stations_start, rows_start, row_length, row_start, vector_in, parse, order_in, mates_in, wrong_order, wrong_mate, solid_cause, wrong_length, wrong_volume, wrong_row, check_station, checker_cause}
use Rattle.sheet.specs.Promises.{AllInLimits, VectorInLimits, KindKnown, NoCause, RowStored, Right}
use Rattle.sheet_laws.specs.WriterLaws.{two_kinds, no_cause, none-malformed, none_limits_all, none-vertex-all, none-station, short_none, counted, body-mesh}
use Rattle.sheet_laws.specs.PrismVolume.{prism-positive}
use Rattle.sheet_laws.specs.OrderAndMates.{is-order, is-mates, is-closed}
use Rattle.sheet_laws.specs.Reading.{plan, placed, plan-split, kind_read, vertices_read, faces_read, stations_read, order_in-length, mates_in-length, pointer_read, none-length, same_list, rows_join}

-- ---- 7 and 8 of a mesh are those of `check_mesh`, in its order

pub solid-mesh : (s : SheetInput) → is_mesh s.kind ≡ true → solid_cause s ≡ faces_cause s.vertices s.faces
unfolding solid_cause faces_cause
solid-mesh s m = rw m

-- ---- a number within the limits is no NaN, so its bits are kept

no_nan : (x : Float) → within_limits x ≡ true → is_nan x ≡ false
unfolding within_limits is_nan
no_nan nan e = cc
no_nan (inf s) e = refl
no_nan (fin s m k) e = refl

limited_bits : (b : List ℕ) (n i : ℕ) → IsBytes b → AllInLimits (doubles (unpack 8 n b i)) → bits (doubles (unpack 8 n b i)) ≡ unpack 8 n b i
limited_bits b n i B h =
    bits-doubles (unpack 8 n b i) (unpack-lt 8 n b i B (omega arith)) (λ j l. no_nan (get_or (doubles (unpack 8 n b i)) j nan) (h j (rw length-map l)))

vector-bits : (b : List ℕ) (i : ℕ) → IsBytes b → VectorInLimits (vector_in b i) → bits (vector_numbers (vector_in b i)) ≡ unpack 8 3 b i
unfolding unpack
vector-bits b i B h = limited_bits b 3 i B each-entry
  where
    each-entry : AllInLimits (doubles (unpack 8 3 b i))
    each-entry zero l = h.x
    each-entry (suc zero) l = h.y
    each-entry (suc (suc zero)) l = h.z
    each-entry (suc (suc (suc j))) l = absurd (omega arith)

-- ---- the causes, one by one

pub record Passed (b : List ℕ) : Type 0 where
  pub length_fits : wrong_length b ≡ Ok tt
  pub is_well_formed : malformed (parse b) ≡ Ok tt
  pub few : too_many (parse b) ≡ Ok tt
  pub is_in_limits : out_of_limits (parse b) ≡ Ok tt
  pub corners : no_such_vertex (parse b) ≡ Ok tt
  pub order : wrong_order (parse b).faces (order_in b) ≡ Ok tt
  pub mate : wrong_mate (parse b).faces (mates_in b) ≡ Ok tt
  pub solid : solid_cause (parse b) ≡ Ok tt
  pub measure : wrong_volume b (parse b) ≡ Ok tt
  pub stations : first_of (station_count (parse b)) (check_station b (parse b)) ≡ Ok tt

pub passed : (b : List ℕ) → checker_cause b ≡ Ok tt → Passed b
unfolding checker_cause
passed b ok =
    let a = both (wrong_length b) _ ok in
    let c = both (malformed (parse b)) _ a.1 in
    let d = both (too_many (parse b)) _ c.1 in
    let e = both (out_of_limits (parse b)) _ d.1 in
    let f = both (no_such_vertex (parse b)) _ e.1 in
    let g = both (wrong_order (parse b).faces (order_in b)) _ f.1 in
    let h = both (wrong_mate (parse b).faces (mates_in b)) _ g.1 in
    let i = both (solid_cause (parse b)) _ h.1 in
    let j = both (wrong_volume b (parse b)) _ i.1 in
    record { length_fits = a.0; is_well_formed = c.0; few = d.0; is_in_limits = e.0; corners = f.0; order = g.0; mate = h.0; solid = i.0; measure = j.0; stations = j.1 }

pub passes_all : (b : List ℕ) → Passed b → checker_cause b ≡ Ok tt
unfolding checker_cause
passes_all b p = rw (p.length_fits, p.is_well_formed, p.few, p.is_in_limits, p.corners, p.order, p.mate, p.solid, p.measure) p.stations

module _ (b : List ℕ) (B : IsBytes b) (p : Passed b) where
  abbrev s : SheetInput
  s = parse b

  frame : (80 ≤ length b) × ((pointer_in b ≡ pointer_for b) × (length b ≡ pointer_for b + 80))
  frame = none-length b p.length_fits

  pub trailer-place : trailer b ≡ pointer_for b
  trailer-place = omega (arith, frame.1.1)

  limits : AllInLimits s.vertices × (VectorInLimits s.magnetisation × (VectorInLimits s.ambient × AllInLimits s.stations))
  limits = none_limits_all s p.is_in_limits

  -- ---- part by part

  vertices-part : bits s.vertices ≡ unpack 8 (3 * vertices_in b) b 0
  unfolding parse
  vertices-part = limited_bits b (3 * vertices_in b) 0 B limits.0

  faces-part : s.faces ≡ unpack 4 (3 * faces_in b) b (24 * vertices_in b)
  unfolding parse
  faces-part = refl

  stations-part : bits s.stations ≡ unpack 8 (3 * stations_in b) b (stations_start b)
  unfolding parse
  stations-part = limited_bits b (3 * stations_in b) (stations_start b) B limits.1.1.1

  magnetisation-part : bits (vector_numbers s.magnetisation) ≡ unpack 8 3 b (trailer b + 16)
  unfolding parse
  magnetisation-part = vector-bits b (trailer b + 16) B limits.1.0

  ambient-part : bits (vector_numbers s.ambient) ≡ unpack 8 3 b (trailer b + 40)
  unfolding parse
  ambient-part = vector-bits b (trailer b + 40) B limits.1.1.0

  counts : Counted s.vertices s.faces (length s.faces)
  counts = counted s p.is_well_formed p.few

  within : Faces s.faces
  within = (is_body s.vertices s.faces (length s.faces) counts (none-vertex-all s p.corners)).faces

  order-part : order_in b ≡ order_list s.faces
  order-part = is-order s.faces (order_in b) (order_in-length b) p.order within

  mates-part : mates_in b ≡ mates s.faces
  mates-part = is-mates s.faces (order_in b) (order_in-length b) p.order within (mates_in b) (mates_in-length b) p.mate

  pub closed : Closed s.faces
  closed = is-closed s.faces (order_in b) (order_in-length b) p.order within (mates_in b) (mates_in-length b) p.mate

  -- ---- rows

  station : (i : ℕ) → i < stations_in b → (station_cause s i ≡ Ok tt) × (wrong_row b s i ≡ Ok tt)
  unfolding check_station
  station i l = both (station_cause s i) (wrong_row b s i) (each (station_count s) (check_station b s) p.stations i (rw stations_read l))

  stands : (i : ℕ) → i < stations_in b → unpack 8 (row_width (kind_in b)) b (row_start b i) ≡ bits (numbers_of s (row_at s i))
  unfolding wrong_row parse
  stands i l = same_list _ _ (holds _ (WrongRow i) (station i l).1)

  rows-part : unpack 8 (row_width (kind_in b) * stations_in b) b (rows_start b) ≡ bits (rows s (station_count s))
  rows-part = rows_join s (row_width (kind_in b)) b (rows_start b) (stations_in b) stands ∙ ap (λ (n : ℕ). bits (rows s n)) (sym (stations_read b))

  -- what stands there is the row's bits
  pub stored : (i : ℕ) → i < stations_in b → RowStored b i
  stored i l =
      let f = none-station s i (station i l).0 in
      let e : unpack 8 (row_width (kind_in b)) b (row_start b i) ≡ bits (row_numbers (kind_in b) f.row) = stands i l ∙ row-bits f.row f.given in
      let w : row_length b ≡ row_width (kind_in b) * 8 = omega arith in
      record {
        row = f.row;
        given = f.given;
        stored = ap (λ (n : ℕ). take n (drop (row_start b i) b)) w ∙ sym (pack-unpack 8 (row_width (kind_in b)) b (row_start b i) B (omega (arith, frame.1.1, row_within (kind_in b) i (stations_in b) l))) ∙ ap (pack 8) e;
      }
    where
      row-bits : (r : Row) → row_at s i ≡ Ok r → bits (numbers_of s (row_at s i)) ≡ bits (row_numbers (kind_in b) r)
      row-bits r q = rw q (ap (λ (k : ℕ). bits (row_numbers k r)) (kind_read b))

  -- ---- the whole

  head_part : s.kind ∷ vertex_count s ∷ face_count s ∷ station_count s ∷ [] ≡ unpack 4 4 b (trailer b)
  unfolding unpack
  head_part =
      let e : trailer b + 8 ≡ trailer b + 4 + 4 = omega arith in
      let f : trailer b + 12 ≡ trailer b + 4 + 4 + 4 = omega arith in
      rw (kind_read b, vertices_read b, faces_read b, stations_read b, e, f)

  pub measured : volume_in b ≡ to_bits binary64 (volume s)
  unfolding wrong_volume
  measured =
      let x = to_bits binary64 (volume s) in
      eqb-true (volume_in b) x (holds (eqb (volume_in b) x) WrongVolume p.measure)

  volume-part : bits (volume s ∷ []) ≡ unpack 8 1 b (trailer b + 64)
  unfolding unpack
  volume-part = ap (λ (x : ℕ). x ∷ []) (sym measured)

  pointer-part : pointer s ∷ [] ≡ unpack 8 1 b (trailer b + 72)
  unfolding unpack
  pointer-part = ap (λ (x : ℕ). x ∷ []) (pointer_read b ∙ sym frame.1.0)

  put : (k : ℕ) {x y : List ℕ} {ps qs : List Part} → x ≡ y → ps ≡ qs → ◌≡◌ {A = List Part} ((k, x) ∷ ps) ((k, y) ∷ qs)
  put k u v = rw (u, v)

  -- the trailer's parts, by the pointer
  in_trailer : (k n j : ℕ) → unpack k n b (trailer b + j) ≡ unpack k n b (pointer_for b + j)
  in_trailer k n j = ap (λ (i : ℕ). unpack k n b (i + j)) trailer-place

  parts_are : parts s ≡ placed (kind_in b) (vertices_in b) (faces_in b) (stations_in b) b
  unfolding parts
  parts_are =
      put 8 vertices-part (put 4 faces-part (put 4 (sym order-part) (put 4 (sym mates-part) (put 8 stations-part (put 8 (sym rows-part)
      (put 4 (head_part ∙ ap (unpack 4 4 b) trailer-place) (put 8 (magnetisation-part ∙ in_trailer 8 3 16) (put 8 (ambient-part ∙ in_trailer 8 3 40)
      (put 8 (volume-part ∙ in_trailer 8 1 64) (put 8 (pointer-part ∙ in_trailer 8 1 72) refl))))))))))

  pub whole : b ≡ sheet_bytes s
  unfolding sheet_bytes
  whole =
      let k = plan (kind_in b) (vertices_in b) (faces_in b) (stations_in b) in
      sym (ap joined (parts_are ∙ sym (plan-split (kind_in b) (vertices_in b) (faces_in b) (stations_in b) b)) ∙ joined-split k b 0 B (omega (arith, frame.1.1)))

  -- ---- no cause of the writer's

  mesh-solid : is_mesh s.kind ≡ true → body_cause s ≡ Ok tt
  unfolding solid_cause volume
  mesh-solid k =
      let v = s.vertices in
      let f = s.faces in
      let e = both (mesh.degenerate_face v f) (mesh.inverted v f) (rw k at p.solid) in
      let q = closed_pairs f closed in
      body-mesh s counts (none-vertex-all s p.corners) k
      (record {
        once = q.once;
        back = q.back;
        normals = λ z. none_degenerate v f e.0;
        positive = λ z. rw k (none-inverted v f e.1);
        side_x = λ z. absurd (two_kinds s.kind k z);
        side_y = λ z. absurd (two_kinds s.kind k z);
        side_z = λ z. absurd (two_kinds s.kind k z);
      })

  prism-solid : is_prism s.kind ≡ true → body_cause s ≡ Ok tt
  unfolding solid_cause body_cause
  prism-solid k = rw (prism_no_mesh s.kind k) (rw (prism_no_mesh s.kind k) at p.solid)

  known : KindKnown s
  known = (none-malformed s p.is_well_formed).1.1.1

  writer_none : writer_cause s (length s.faces) (length b) ≡ Ok tt
  unfolding writer_cause
  writer_none =
      let room : sheet_size s ≤ length b = omega (arith, pointer_read b, frame.1.1) in
      rw (p.is_well_formed, p.few, short_none s (length s.faces) (length b) (le_refl (length s.faces)) room, p.is_in_limits, p.corners, ⊎_elim mesh-solid (λ k. prism-solid k.0) known)
      (from_each (station_count s) (station_cause s) (λ i l. (station i (omega (arith, stations_read b))).0))

  pub sound : NoCause s (length s.faces) (length b)
  sound = no_cause s (length s.faces) (length b) writer_none

  -- ---- the surface

  pub normals : (j : ℕ) → j < faces_in b → is_zero (normal s.vertices s.faces j) ≡ false
  normals j l = ⊎_elim (λ k. sound.normals k j (omega (arith, faces_read b))) (λ k. absurd (omega (arith, faces_read b, k.1.1))) known

  prism-above : is_prism s.kind ≡ true → lt 0·0 (volume s) ≡ true
  unfolding volume
  prism-above k = rw (prism_no_mesh s.kind k) (prism-positive (vertex s.vertices 0) (vertex s.vertices 1) (sound.side_x k) (sound.side_y k) (sound.side_z k))

  pub positive : lt 0·0 (volume s) ≡ true
  positive = ⊎_elim (λ k. sound.positive k) (λ k. prism-above k.0) known

  pub right : Right b (kind_in b) (stations_in b)
  right = record { kind = refl; stations = refl; closed = closed; normals = normals; measured = measured; positive = positive; rows = stored; whole = whole; sound = sound }
