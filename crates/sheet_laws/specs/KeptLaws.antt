-- The sheet of an input of which no cause of refusal holds has its length (`sheet_length`), holds the input bit for bit, and is accepted (`is-kept`, at the end).
-- Assumes nothing.
use Rattle.std.specs.Prelude.{◌≡◌, refl, true, T, length, take, drop, Float}
use Rattle.std.proofs.Math.Path.{sym, ap}
use Rattle.std.proofs.Common.{◌∙◌, subst, arith, drop-drop, eq-eqb}
use mathlib.Core.List.{List, [], ◌∷◌, ◌++◌}
use Rattle.std.proofs.Math.Logic.{⊎_elim}
use Prim.{tt}
use Prim.Native.Nat.{ℕ, zero, suc, ◌+◌, ◌*◌, ◌^◌, ◌≤◌, ◌<◌}
use Rattle.std.proofs.Math.ListN.{get_or}
use Rattle.std.proofs.lemmas.List.{length-map}
use Rattle.std.proofs.Math.Seq.{take-add}
use Rattle.std.specs.Float.Ieee.{binary64, to_bits, fits}
use Rattle.std.specs.Float.Ieee.Fits.{add-fits, mul-fits, div-fits, cond-fits, nan-fits}
use Rattle.std.specs.Float.Ieee.Bits.{of_bits-fits}
use Rattle.doubles.specs.Constants.{0·0}
use Rattle.std.specs.Prelude.{Ok, Err}
use Rattle.refusals.specs.Answer.{Answer}
use Rattle.refusals.specs.Causes.{first_of}
use Rattle.refusals.specs.declared.Refusal.TheVariants.{WrongVolume, WrongRow}
use Rattle.refusals.proofs.Causes.{both, from_both, passes, from_each}
use Rattle.lists.specs.Count.{Below}
use Rattle.lists.proofs.Counts.{below_all}
use Rattle.newtonian.specs.Vectors.{vector_numbers}
use Rattle.newtonian.specs.declared.Vector.{Vector}
use Rattle.newtonian.specs.declared.Newtonian.{Newtonian}
use Rattle.newtonian.specs.Fold.{Fold}
use Rattle.mesh_orders.specs.Edges.{max_stations, Faces}
use Rattle.mesh_orders.specs.Order.{order_list}
use Rattle.mesh_orders.specs.OrderLaws as order
use Rattle.mesh_orders.specs.Mates.{mates}
use Rattle.mesh.specs.Surface as surface
use Rattle.mesh.specs.Accepted.{Counted, Closed}
use Rattle.mesh.specs.CauseLaws.{is_body, degenerate_none, inverted-none}
use Rattle.mesh_laws.specs.ClosedLaws.{pairs_closed}
use Rattle.prism.specs.Prism.{sides_within_limits, side_within_limits, prism_volume}
use Rattle.anomaly.specs.Body.{body_of}
use Rattle.anomaly.specs.TotalField.{total_field_of}
use Rattle.sheet_layout.specs.LittleEndian.{number, pack, unpack, bits, doubles, IsBytes, IsDoubles}
use Rattle.sheet_layout.specs.Parts.{Part, Run, joined, layout, size, split, EachFits}
use Rattle.sheet_layout.proofs.Bits.{bits-lt, doubles-bits}
use Rattle.sheet_layout.proofs.Lists.{unpack-at, pack-unpack}
use Rattle.sheet_layout.proofs.Files.{joined_length, joined_are, split-joined}
use Rattle.sheet_rows.specs.Kinds.{is_mesh, is_prism, row_width}
use Rattle.sheet_rows.proofs.KindLaws.{prism_no_mesh, rows_few, row_width_lem}
use Rattle.sheet_rows.specs.Row.{in_row, field_at, row_from, row_numbers}
use Rattle.sheet_rows.specs.Row as row
use Rattle.sheet_rows.specs.declared.Row.{Row}
use Rattle.sheet_laws.specs.FieldFits.{FieldFits, field_at_fits}
use Rattle.sheet.specs.Input.{SheetInput, vertex_count, face_count, station_count, station_at, row_at}
use Rattle.sheet.specs.Bytes.{trailer_length, pointer, pointer_of, volume, sheet_size, numbers_of, rows, parts, sheet_bytes}
use Rattle.sheet.specs.Writer.{malformed, too_many, too_short, out_of_limits, no_such_vertex, too_thin, station_cause, writer_cause}
use Rattle.sheet.specs.Checker.{trailer, kind_in, vertices_in, faces_in, stations_in, volume_in, pointer_in, pointer_for, faces_start, order_start, mates_start, stations_start, rows_start, row_start, vector_in, parse, order_in, mates_in, same_numbers, wrong_order, wrong_mate, solid_cause, wrong_volume, wrong_row, check_station, checker_cause}
use Rattle.sheet.specs.Promises.{NoCause, Typed, VectorFits, Kept}
use Rattle.sheet_laws.specs.WriterLaws.{station-none, cause-none}
use Rattle.sheet_laws.specs.OrderAndMates.{order_passes, mates_pass, mates-below, mates-length}
use Rattle.sheet_laws.specs.Reading.{same_input, plan, placed, plan-split, plan-size, length_none, list_same, RowsHave, rows-length, rows_apart}
use Rattle.sheet_laws.specs.AcceptedLaws.{passes_all}

-- ---- the numbers of a sheet are doubles

doubles-append : (xs ys : List Float) → IsDoubles xs → IsDoubles ys → IsDoubles (xs ++ ys)
doubles-append [] ys h k i = k i
doubles-append (x ∷ xs) ys h k zero = h 0
doubles-append (x ∷ xs) ys h k (suc i) = doubles-append xs ys (λ j. h (suc j)) k i

vector-doubles : (v : Vector) → VectorFits v → IsDoubles (vector_numbers v)
vector-doubles v h zero = h.0
vector-doubles v h (suc zero) = h.1.0
vector-doubles v h (suc (suc zero)) = h.1.1
vector-doubles v h (suc (suc (suc i))) = nan-fits binary64

row_from_fits : (kind : ℕ) (m b : Vector) (g : Newtonian) → FieldFits g → IsDoubles (row_numbers kind (row_from kind m b g))
unfolding row_numbers row_from body_of total_field_of
row_from_fits kind m b g h zero = h.potential
row_from_fits kind m b g h (suc zero) = h.x
row_from_fits kind m b g h (suc (suc zero)) = h.y
row_from_fits kind m b g h (suc (suc (suc zero))) = h.z
row_from_fits kind m b g h (suc (suc (suc (suc zero)))) = mul-fits binary64 _ _
row_from_fits kind m b g h (suc (suc (suc (suc (suc zero))))) = mul-fits binary64 _ _
row_from_fits kind m b g h (suc (suc (suc (suc (suc (suc zero)))))) = mul-fits binary64 _ _
row_from_fits kind m b g h (suc (suc (suc (suc (suc (suc (suc zero))))))) = div-fits binary64 _ _
row_from_fits kind m b g h (suc (suc (suc (suc (suc (suc (suc (suc i)))))))) = nan-fits binary64

in_row_fits : (kind : ℕ) (m b : Vector) (a : Answer Newtonian) → ((g : Newtonian) → a ≡ Ok g → FieldFits g) → (r : Row) → in_row kind m b a ≡ Ok r → IsDoubles (row_numbers kind r)
in_row_fits kind m b (Ok g) h r e = subst (λ (q : Row). IsDoubles (row_numbers kind q)) (let z : row_from kind m b g ≡ r = cc in z) (row_from_fits kind m b g (h g refl))
in_row_fits kind m b (Err x) h r e = absurd (let z : ◌≡◌ {A = ℕ} 0 1 = cc in omega arith)

row_fits : (s : SheetInput) (i : ℕ) (r : Row) → row_at s i ≡ Ok r → IsDoubles (row_numbers s.kind r)
unfolding row_at row.row_at
row_fits s i r e =
    in_row_fits s.kind s.magnetisation s.ambient (field_at s.kind i (station_at s i) s.vertices s.faces)
    (field_at_fits s.kind i (station_at s i) s.vertices s.faces) r e

mesh-volume_fits : (v : List Float) (f : List ℕ) (n : ℕ) → T (fits binary64 (Fold n (surface.add_face_volume v f) 0·0))
unfolding Fold
mesh-volume_fits v f zero = of_bits-fits binary64 0
mesh-volume_fits v f (suc n) = add-fits binary64 _ _

volume_fits : (s : SheetInput) → T (fits binary64 (volume s))
unfolding volume surface.volume prism_volume
volume_fits s =
    cond-fits binary64 (is_mesh s.kind) (Fold (face_count s) (surface.add_face_volume s.vertices s.faces) 0·0) _ (mesh-volume_fits s.vertices s.faces (face_count s)) (mul-fits binary64 _ _)

-- ---- part n of a list

abbrev part : ℕ → List Part → List ℕ
part zero [] = []
part zero ((k, xs) ∷ ps) = xs
part (suc n) [] = []
part (suc n) ((k, xs) ∷ ps) = part n ps

module _ (s : SheetInput) (ty : Typed s) (w o : ℕ) (h : NoCause s w o) where
  abbrev b : List ℕ
  b = sheet_bytes s

  -- ---- the rows

  have : RowsHave s (row_width s.kind) (station_count s)
  have i l = rw (h.rows i l).given (row_width_lem s.kind (h.rows i l).row)

  rows_fit : (n : ℕ) → n ≤ station_count s → IsDoubles (rows s n)
  unfolding rows
  rows_fit zero l = λ i. nan-fits binary64
  rows_fit (suc n) l =
      let q = h.rows n (omega arith) in
      doubles-append (rows s n) (numbers_of s (row_at s n)) (rows_fit n (omega arith)) (rw q.given (row_fits s n q.row q.given))

  -- ---- the layout

  thirds : (length s.vertices ≡ 3 * vertex_count s) × ((length s.faces ≡ 3 * face_count s) × (length s.stations ≡ 3 * station_count s))
  thirds = (omega (arith, h.coordinates), (omega (arith, h.corners), omega (arith, h.triples)))

  bits-length : (xs : List Float) → length (bits xs) ≡ length xs
  bits-length xs = length-map xs (to_bits binary64)

  run : (k : ℕ) {m n : ℕ} {rs ts : List Run} → m ≡ n → rs ≡ ts → ◌≡◌ {A = List Run} ((k, m) ∷ rs) ((k, n) ∷ ts)
  run k u v = rw (u, v)

  layout_is : layout (parts s) ≡ plan s.kind (vertex_count s) (face_count s) (station_count s)
  unfolding parts
  layout_is =
      run 8 (bits-length s.vertices ∙ thirds.0) (run 4 thirds.1.0 (run 4 (order.order-length s.faces ∙ thirds.1.0) (run 4 (mates-length s.faces ∙ thirds.1.0)
      (run 8 (bits-length s.stations ∙ thirds.1.1) (run 8 (bits-length (rows s (station_count s)) ∙ rows-length s (row_width s.kind) (station_count s) have) refl)))))

  -- ---- each number fits its width

  counts : Counted s.vertices s.faces (length s.faces)
  counts = record { coordinates = h.coordinates; corners = h.corners; vertices = h.vertices; faces = h.faces; room = omega arith }

  faces : Faces s.faces
  faces = (is_body s.vertices s.faces (length s.faces) counts h.inside).faces

  closed : Closed s.faces
  closed = pairs_closed s.faces (record { once = h.once; back = h.back })

  uses-lt : (l : List ℕ) → Below l (length s.faces) → (i : ℕ) → get_or l i 0 < 256 ^ 4
  uses-lt l q = below_all l (256 ^ 4) (omega arith) (λ i k. omega (arith, q i k, faces.few))

  head_lt : (i : ℕ) → get_or (s.kind ∷ vertex_count s ∷ face_count s ∷ station_count s ∷ []) i 0 < 256 ^ 4
  head_lt zero = ty.kind
  head_lt (suc zero) = omega (arith, h.vertices)
  head_lt (suc (suc zero)) = omega (arith, h.faces)
  head_lt (suc (suc (suc zero))) = omega (arith, h.stations)
  head_lt (suc (suc (suc (suc i)))) = omega arith

  one-lt : (x : ℕ) → x < 256 ^ 8 → (i : ℕ) → get_or (x ∷ []) i 0 < 256 ^ 8
  one-lt x l zero = l
  one-lt x l (suc i) = omega arith

  volume-doubles : IsDoubles (volume s ∷ [])
  volume-doubles zero = volume_fits s
  volume-doubles (suc i) = nan-fits binary64

  each_fits : EachFits (parts s)
  unfolding parts
  each_fits = (
    bits-lt s.vertices ty.vertices,
    (
      ty.faces,
      (
        uses-lt (order_list s.faces) (order.order_below s.faces),
        (
          uses-lt (mates s.faces) (mates-below s.faces faces closed),
          (
            bits-lt s.stations ty.stations,
            (
              bits-lt (rows s (station_count s)) (rows_fit (station_count s) (omega arith)),
              (
                head_lt,
                (
                  bits-lt (vector_numbers s.magnetisation) (vector-doubles s.magnetisation ty.magnetisation),
                  (
                    bits-lt (vector_numbers s.ambient) (vector-doubles s.ambient ty.ambient),
                    (bits-lt (volume s ∷ []) volume-doubles, (one-lt (pointer s) (omega (arith, h.vertices, h.faces, rows_few s.kind 24 (station_count s) max_stations h.stations)), tt)),
                  ),
                ),
              ),
            ),
          ),
        ),
      ),
    ),
  )

  -- ---- the bytes, taken apart, are the parts

  parts_are : placed s.kind (vertex_count s) (face_count s) (station_count s) b ≡ parts s
  unfolding sheet_bytes
  parts_are =
      sym (plan-split s.kind (vertex_count s) (face_count s) (station_count s) b)
      ∙ ap (λ (rs : List Run). split rs (joined (parts s)) 0) (sym layout_is) ∙ split-joined (parts s) each_fits

  pub sheet_length : length b ≡ sheet_size s
  unfolding sheet_bytes
  sheet_length = joined_length (parts s) ∙ ap size layout_is ∙ plan-size s.kind (vertex_count s) (face_count s) (station_count s) []

  pub sheet_bytes_lem : IsBytes b
  unfolding sheet_bytes
  sheet_bytes_lem = joined_are (parts s)

  pub trailer-is : trailer b ≡ pointer s
  trailer-is = omega (arith, sheet_length)

  -- ---- what stands in the trailer

  head_is : unpack 4 4 b (pointer s) ≡ s.kind ∷ vertex_count s ∷ face_count s ∷ station_count s ∷ []
  unfolding parts
  head_is = ap (part 6) parts_are

  at_head : (j : ℕ) → j < 4 → number 4 b (pointer s + j * 4) ≡ get_or (s.kind ∷ vertex_count s ∷ face_count s ∷ station_count s ∷ []) j 0
  at_head j l = sym (unpack-at 4 4 b (pointer s) j l) ∙ ap (λ (ns : List ℕ). get_or ns j 0) head_is

  pub kind-is : kind_in b ≡ s.kind
  kind-is = let e : trailer b ≡ pointer s + 0 * 4 = omega (arith, trailer-is) in ap (number 4 b) e ∙ at_head 0 (omega arith)

  pub vertices-is : vertices_in b ≡ vertex_count s
  vertices-is = let e : trailer b + 4 ≡ pointer s + 1 * 4 = omega (arith, trailer-is) in ap (number 4 b) e ∙ at_head 1 (omega arith)

  pub faces-is : faces_in b ≡ face_count s
  faces-is = let e : trailer b + 8 ≡ pointer s + 2 * 4 = omega (arith, trailer-is) in ap (number 4 b) e ∙ at_head 2 (omega arith)

  pub stations-is : stations_in b ≡ station_count s
  stations-is = let e : trailer b + 12 ≡ pointer s + 3 * 4 = omega (arith, trailer-is) in ap (number 4 b) e ∙ at_head 3 (omega arith)

  -- ---- the parts, where the checker reads them

  at : (k n : ℕ) {x : List ℕ} {i : ℕ} (j : ℕ) → i ≡ j → unpack k n b j ≡ x → unpack k n b i ≡ x
  at k n j e q = ap (unpack k n b) e ∙ q

  vertices-part : unpack 8 (3 * vertices_in b) b 0 ≡ bits s.vertices
  unfolding parts
  vertices-part = ap (λ (n : ℕ). unpack 8 (3 * n) b 0) vertices-is ∙ ap (part 0) parts_are

  faces-part : unpack 4 (3 * faces_in b) b (faces_start b) ≡ s.faces
  unfolding parts
  faces-part =
      ap (λ (n : ℕ). unpack 4 (3 * n) b (faces_start b)) faces-is
      ∙ at 4 (3 * face_count s) (24 * vertex_count s) (omega (arith, vertices-is)) (ap (part 1) parts_are)

  order-part : order_in b ≡ order_list s.faces
  unfolding parts
  order-part =
      ap (λ (n : ℕ). unpack 4 (3 * n) b (order_start b)) faces-is
      ∙ at 4 (3 * face_count s) (24 * vertex_count s + 12 * face_count s) (omega (arith, vertices-is, faces-is)) (ap (part 2) parts_are)

  mates-part : mates_in b ≡ mates s.faces
  unfolding parts
  mates-part =
      ap (λ (n : ℕ). unpack 4 (3 * n) b (mates_start b)) faces-is
      ∙ at 4 (3 * face_count s) (24 * vertex_count s + 24 * face_count s) (omega (arith, vertices-is, faces-is)) (ap (part 3) parts_are)

  stations-part : unpack 8 (3 * station_count s) b (stations_start b) ≡ bits s.stations
  unfolding parts
  stations-part = at 8 (3 * station_count s) (24 * vertex_count s + 36 * face_count s) (omega (arith, vertices-is, faces-is)) (ap (part 4) parts_are)

  rows-part : unpack 8 (row_width s.kind * station_count s) b (rows_start b) ≡ bits (rows s (station_count s))
  unfolding parts
  rows-part =
      at 8 (row_width s.kind * station_count s) (24 * vertex_count s + 36 * face_count s + 24 * station_count s) (omega (arith, vertices-is, faces-is, stations-is)) (ap (part 5) parts_are)

  head_part : unpack 4 4 b (trailer b) ≡ s.kind ∷ vertex_count s ∷ face_count s ∷ station_count s ∷ []
  head_part = at 4 4 (pointer s) trailer-is head_is

  magnetisation-part : unpack 8 3 b (trailer b + 16) ≡ bits (vector_numbers s.magnetisation)
  unfolding parts
  magnetisation-part = at 8 3 (pointer s + 16) (omega (arith, trailer-is)) (ap (part 7) parts_are)

  ambient-part : unpack 8 3 b (trailer b + 40) ≡ bits (vector_numbers s.ambient)
  unfolding parts
  ambient-part = at 8 3 (pointer s + 40) (omega (arith, trailer-is)) (ap (part 8) parts_are)

  volume-is : volume_in b ≡ to_bits binary64 (volume s)
  unfolding parts unpack
  volume-is =
      let e : trailer b + 64 ≡ pointer s + 64 = omega (arith, trailer-is) in
      ap (number 8 b) e ∙ ap (λ (ns : List ℕ). get_or ns 0 0) (ap (part 9) parts_are)

  pointer_is : pointer_in b ≡ pointer s
  unfolding parts unpack
  pointer_is =
      let e : trailer b + 72 ≡ pointer s + 72 = omega (arith, trailer-is) in
      ap (number 8 b) e ∙ ap (λ (ns : List ℕ). get_or ns 0 0) (ap (part 10) parts_are)

  -- ---- the input is read back

  vector-back : (i : ℕ) (v : Vector) → VectorFits v → unpack 8 3 b i ≡ bits (vector_numbers v) → vector_in b i ≡ v
  vector-back i v f e = ap (λ (ns : List ℕ). surface.vertex (doubles ns) 0) e ∙ ap (λ (xs : List Float). surface.vertex xs 0) (doubles-bits (vector_numbers v) (vector-doubles v f))

  pub read_back : parse b ≡ s
  unfolding parse
  read_back =
      same_input kind-is (ap doubles vertices-part ∙ doubles-bits s.vertices ty.vertices) faces-part
      (vector-back (trailer b + 16) s.magnetisation ty.magnetisation magnetisation-part) (vector-back (trailer b + 40) s.ambient ty.ambient ambient-part)
      (ap (λ (n : ℕ). doubles (unpack 8 (3 * n) b (stations_start b))) stations-is ∙ ap doubles stations-part ∙ doubles-bits s.stations ty.stations)

  -- ---- and the sheet passes

  mesh-solid : is_mesh s.kind ≡ true → solid_cause s ≡ Ok tt
  unfolding solid_cause volume
  mesh-solid k =
      rw (k, degenerate_none s.vertices s.faces (h.normals k), inverted-none s.vertices s.faces (rw k at (h.positive k)))

  prism-solid : is_prism s.kind ≡ true → solid_cause s ≡ Ok tt
  unfolding solid_cause too_thin sides_within_limits side_within_limits
  prism-solid k = rw (prism_no_mesh s.kind k, h.side_x k, h.side_y k, h.side_z k)

  pointer_read : pointer_for b ≡ pointer s
  pointer_read = ap (λ (k : ℕ). pointer_of k (vertices_in b) (faces_in b) (stations_in b)) kind-is ∙ rw (vertices-is, faces-is, stations-is)

  row_passes : (i : ℕ) → i < station_count s → wrong_row b s i ≡ Ok tt
  unfolding wrong_row
  row_passes i l =
      let n = row_width s.kind in
      let e : row_start b i ≡ rows_start b + 8 * n * i = ap (λ (k : ℕ). rows_start b + 8 * row_width k * i) kind-is in
      let q : unpack 8 n b (row_start b i) ≡ bits (numbers_of s (row_at s i)) = at 8 n (rows_start b + 8 * n * i) e (rows_apart s n b (rows_start b) (station_count s) have rows-part i l) in
      rw q (passes (same_numbers (bits (numbers_of s (row_at s i))) (bits (numbers_of s (row_at s i)))) (WrongRow i) (list_same (bits (numbers_of s (row_at s i)))))

  volume_passes : wrong_volume b s ≡ Ok tt
  unfolding wrong_volume
  volume_passes = passes _ WrongVolume (eq-eqb (volume_in b) (to_bits binary64 (volume s)) volume-is)

  pub accepted : checker_cause b ≡ Ok tt
  unfolding writer_cause check_station
  accepted =
      let c₁ = both (malformed s) _ (cause-none s w o h) in
      let c₂ = both (too_many s) _ c₁.1 in
      let c₁₂ = both (too_short s w o) _ c₂.1 in
      let c₃ = both (out_of_limits s) _ c₁₂.1 in
      let c₄ = both (no_such_vertex s) _ c₃.1 in
      passes_all b
      (record {
        length_fits = length_none b (pointer_is ∙ sym pointer_read) (sheet_length ∙ ap (λ (n : ℕ). n + trailer_length) (sym pointer_read));
        is_well_formed = ap malformed read_back ∙ c₁.0;
        few = ap too_many read_back ∙ c₂.0;
        is_in_limits = ap out_of_limits read_back ∙ c₃.0;
        corners = ap no_such_vertex read_back ∙ c₄.0;
        order = ap (λ (t : SheetInput). wrong_order t.faces (order_in b)) read_back ∙ ap (wrong_order s.faces) order-part ∙ order_passes s.faces faces closed;
        mate = ap (λ (t : SheetInput). wrong_mate t.faces (mates_in b)) read_back ∙ ap (wrong_mate s.faces) mates-part ∙ mates_pass s.faces faces closed;
        solid = ap solid_cause read_back ∙ ⊎_elim mesh-solid (λ k. prism-solid k.0) h.known;
        measure = ap (wrong_volume b) read_back ∙ volume_passes;
        stations =
            ap (λ (t : SheetInput). first_of (station_count t) (check_station b t)) read_back
            ∙ from_each (station_count s) (check_station b s) (λ i l. from_both (station_cause s i) (wrong_row b s i) (station-none s i (h.rows i l)) (row_passes i l));
      })

  -- ---- the bytes themselves

  packed : (k n i m : ℕ) (xs : List ℕ) → n * k ≡ m → i + m ≤ length b → unpack k n b i ≡ xs → take m (drop i b) ≡ pack k xs
  packed k n i m xs e l q = ap (λ (j : ℕ). take j (drop i b)) (sym e) ∙ sym (pack-unpack k n b i sheet_bytes_lem (omega arith)) ∙ ap (pack k) q

  header : take 64 (drop (trailer b) b)
      ≡ pack 4 (s.kind ∷ vertex_count s ∷ face_count s ∷ station_count s ∷ []) ++ pack 8 (bits (vector_numbers s.magnetisation)) ++ pack 8 (bits (vector_numbers s.ambient))
  header =
      let t = trailer b in
      let room : t + 64 ≤ length b = omega (arith, sheet_length) in
      take-add 40 24 (drop t b) ∙ ap (λ (l : List ℕ). l ++ take 24 (drop 40 (drop t b))) (take-add 16 24 (drop t b))
      ∙ three (packed 4 4 t 16 _ refl (omega arith) head_part) (ap (take 24) (drop-drop 16 t b) ∙ packed 8 3 (t + 16) 24 _ refl (omega arith) magnetisation-part)
      (ap (take 24) (drop-drop 40 t b) ∙ packed 8 3 (t + 40) 24 _ refl (omega arith) ambient-part)
    where
      three : {x x' y y' z z' : List ℕ} → x ≡ x' → y ≡ y' → z ≡ z' → x ++ y ++ z ≡ x' ++ y' ++ z'
      three p q r = cc

  body_bytes : take (24 * vertex_count s + 12 * face_count s) b ≡ pack 8 (bits s.vertices) ++ pack 4 s.faces
  unfolding parts
  body_bytes =
      let v = vertex_count s in
      let f = face_count s in
      take-add (24 * v) (12 * f) b
      ∙ two (packed 8 (3 * v) 0 (24 * v) _ (omega arith) (omega (arith, sheet_length)) (ap (part 0) parts_are))
      (packed 4 (3 * f) (24 * v) (12 * f) _ (omega arith) (omega (arith, sheet_length)) (ap (part 1) parts_are))
    where
      two : {x x' y y' : List ℕ} → x ≡ x' → y ≡ y' → x ++ y ≡ x' ++ y'
      two p q = cc

  stations-bytes : take (24 * station_count s) (drop (stations_start b) b) ≡ pack 8 (bits s.stations)
  stations-bytes = packed 8 (3 * station_count s) (stations_start b) (24 * station_count s) _ (omega arith) (omega (arith, sheet_length, vertices-is, faces-is)) stations-part

  pub is-kept : Kept s b
  is-kept = record { holds = read_back; header = header; body = body_bytes; stations = stations-bytes; accepted = accepted }
