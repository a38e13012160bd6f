-- What `check_sheet` answers of a list of bytes `b`, and the parts that readers are handed. Each cause of refusal carries its number in document 01. Definitions only.
use Rattle.std.specs.Prelude.{Bool, true, false, ◌&&◌, ◌||◌, cond, List, [], ◌∷◌, ℕ, ◌+◌, ◌*◌, ◌-◌, eqb, ltb, leb, length, get_or, take, drop}
use Rattle.std.specs.Float.{binary64}
use Rattle.std.specs.Float.Ieee.{to_bits}
use Rattle.std.specs.Prelude.{Ok, Err}
use Rattle.refusals.specs.Answer.{Answer, or_answer}
use Rattle.refusals.specs.Causes.{Cause}
use Rattle.refusals.specs.Causes.{or_else, unless, first_of}
use Rattle.refusals.specs.declared.Refusal.TheVariants.{WrongLength, WrongOrder, WrongMate, WrongVolume, WrongRow}
use Rattle.mesh_orders.specs.Edges.{edge, reverse}
use Rattle.newtonian.specs.declared.Vector.{Vector}
use Rattle.mesh.specs.Surface.{vertex}
use Rattle.mesh.specs.Check as mesh
use Rattle.sheet_layout.specs.LittleEndian.{number, unpack, bits, doubles}
use Rattle.sheet_rows.specs.Kinds.{is_mesh, row_width}
use Rattle.sheet.specs.Input.{SheetInput, station_count, row_at}
use Rattle.sheet.specs.Bytes.{trailer_length, pointer_of, volume, numbers_of}
use Rattle.sheet.specs.Writer.{malformed, too_many, out_of_limits, no_such_vertex, too_thin, station_cause}
use Rattle.sheet.specs.declared.Accepted.{Accepted}

-- ---- the answer to a check of a sheet: the kind and S, or the refusal

abbrev pub verdict_answer : Answer Accepted → Answer (List ℕ)
verdict_answer (Ok a) = Ok (a.kind ∷ a.stations ∷ [])
verdict_answer (Err r) = Err r

-- ---- causes that do not read the sheet themselves: f is its face list, o its order list and m its mates

-- 17: an entry of the order list that is no edge use, or edges that do not ascend strictly
abbrev pub ascends : List ℕ → List ℕ → ℕ → Bool
ascends f o i = ltb (get_or o i 0) (length f) && (eqb i 0 || ltb (edge f (get_or o (i - 1) 0)) (edge f (get_or o i 0)))

unfoldable pub wrong_order : List ℕ → List ℕ → Cause
wrong_order f o = first_of (length f) (λ i. unless (ascends f o i) WrongOrder)

-- 18: a mate that is no edge use, or not the reverse
abbrev pub is_reverse : List ℕ → List ℕ → ℕ → Bool
is_reverse f m u = ltb (get_or m u 0) (length f) && eqb (edge f (get_or m u 0)) (reverse f u)

unfoldable pub wrong_mate : List ℕ → List ℕ → Cause
wrong_mate f m = first_of (length f) (λ u. unless (is_reverse f m u) WrongMate)

-- 7 and 8 of a mesh, or 9 of a prism
unfoldable pub solid_cause : SheetInput → Cause
solid_cause s = cond (is_mesh s.kind) (or_else (mesh.degenerate_face s.vertices s.faces) (mesh.inverted s.vertices s.faces)) (too_thin s)

-- two lists are equal
abbrev pub same_numbers : List ℕ → List ℕ → Bool
same_numbers [] [] = true
same_numbers [] (y ∷ ys) = false
same_numbers (x ∷ xs) [] = false
same_numbers (x ∷ xs) (y ∷ ys) = eqb x y && same_numbers xs ys

-- nothing, where a cause refuses
abbrev pub unless_refused : Cause → List ℕ → List ℕ
unless_refused (Ok _) part = part
unless_refused (Err r) part = []

module _ (b : List ℕ) where
  -- ---- the trailer, the last 80 bytes

  abbrev pub trailer : ℕ
  trailer = length b - trailer_length

  abbrev pub kind_in : ℕ
  kind_in = number 4 b trailer

  abbrev pub vertices_in : ℕ
  vertices_in = number 4 b (trailer + 4)

  abbrev pub faces_in : ℕ
  faces_in = number 4 b (trailer + 8)

  abbrev pub stations_in : ℕ
  stations_in = number 4 b (trailer + 12)

  abbrev pub volume_in : ℕ
  volume_in = number 8 b (trailer + 64)

  abbrev pub pointer_in : ℕ
  pointer_in = number 8 b (trailer + 72)

  -- what the pointer has to be by the counts
  abbrev pub pointer_for : ℕ
  pointer_for = pointer_of kind_in vertices_in faces_in stations_in

  -- ---- where the parts begin; the vertices begin at 0

  abbrev pub faces_start : ℕ
  faces_start = 24 * vertices_in

  abbrev pub order_start : ℕ
  order_start = 24 * vertices_in + 12 * faces_in

  abbrev pub mates_start : ℕ
  mates_start = 24 * vertices_in + 24 * faces_in

  abbrev pub stations_start : ℕ
  stations_start = 24 * vertices_in + 36 * faces_in

  abbrev pub rows_start : ℕ
  rows_start = 24 * vertices_in + 36 * faces_in + 24 * stations_in

  abbrev pub row_length : ℕ
  row_length = 8 * row_width kind_in

  abbrev pub row_start : ℕ → ℕ
  row_start i = rows_start + row_length * i

  -- ---- what the sheet was made from

  abbrev pub vector_in : ℕ → Vector
  vector_in at = vertex (doubles (unpack 8 3 b at)) 0

  unfoldable pub parse : SheetInput
  parse = record {
    kind = kind_in;
    vertices = doubles (unpack 8 (3 * vertices_in) b 0);
    faces = unpack 4 (3 * faces_in) b faces_start;
    magnetisation = vector_in (trailer + 16);
    ambient = vector_in (trailer + 40);
    stations = doubles (unpack 8 (3 * stations_in) b stations_start);
  }

  abbrev pub order_in : List ℕ
  order_in = unpack 4 (3 * faces_in) b order_start

  abbrev pub mates_in : List ℕ
  mates_in = unpack 4 (3 * faces_in) b mates_start

  -- ---- the causes

  -- 16: under 80 bytes, or the pointer or the length is not what the counts give
  unfoldable pub wrong_length : Cause
  wrong_length = unless (leb trailer_length (length b) && (eqb pointer_in pointer_for && eqb (length b) (pointer_for + trailer_length))) WrongLength

  -- 19: the volume's bits differ
  unfoldable pub wrong_volume : SheetInput → Cause
  wrong_volume s = unless (eqb volume_in (to_bits binary64 (volume s))) WrongVolume

  -- 20: the row's bits differ
  unfoldable pub wrong_row : SheetInput → ℕ → Cause
  wrong_row s i = unless (same_numbers (unpack 8 (row_width s.kind) b (row_start i)) (bits (numbers_of s (row_at s i)))) (WrongRow i)

  -- 10 or 11, then 13, then 20, of station i
  unfoldable pub check_station : SheetInput → ℕ → Cause
  check_station s i = or_else (station_cause s i) (wrong_row s i)

  -- the causes in document 01's order: 16, 1, 2, 3, 4, 17, 18, 7 and 8 or 9, 19, and by station 10 or 11, 13, 20
  unfoldable pub checker_cause : Cause
  checker_cause =
      let s = parse in
      or_else wrong_length (or_else (malformed s) (or_else (too_many s) (or_else (out_of_limits s) (or_else (no_such_vertex s) (or_else (wrong_order s.faces order_in)
      (or_else (wrong_mate s.faces mates_in) (or_else (solid_cause s) (or_else (wrong_volume s) (first_of (station_count s) (check_station s))))))))))

  -- ---- the answer: the first of these causes, or the kind and S that stand in the trailer

  unfoldable pub check_sheet : Answer (List ℕ)
  check_sheet = or_answer checker_cause (Ok (kind_in ∷ stations_in ∷ []))

  -- ---- for readers

  -- 16, 1 and 2
  unfoldable pub opening_cause : Cause
  opening_cause = or_else wrong_length (or_else (malformed parse) (too_many parse))

  -- the rows, from the first's first byte to the trailer; nothing where 16, 1 or 2 refuses
  unfoldable pub rows_part : List ℕ
  rows_part = unless_refused opening_cause (take (row_length * stations_in) (drop rows_start b))

  -- row i, and nothing past the last
  unfoldable pub row_part : ℕ → List ℕ
  row_part i = unless_refused opening_cause (cond (ltb i stations_in) (take row_length (drop (row_start i) b)) [])
