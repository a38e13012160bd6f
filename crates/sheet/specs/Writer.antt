-- What `write_sheet` answers, and what the lent out holds afterwards; work is as `work_after` of the mesh has it. Each cause of refusal carries its number in document 01,
-- and is judged from the arguments and the lengths `w` of work and `o` of out. Definitions only.
use Rattle.std.specs.Prelude.{Bool, ◌&&◌, cond, List, [], ◌∷◌, ◌++◌, ℕ, ◌%◌, eqb, leb, length, drop, replicate}
use Rattle.refusals.specs.Numbers.{number_of}
use Rattle.refusals.specs.Causes.{or_else, unless, first_of}
use Rattle.refusals.specs.declared.Refusal.{Refusal}
use Rattle.refusals.specs.declared.Refusal.TheVariants.{Malformed, TooMany, TooShort, OutOfLimits, TooThin}
use Rattle.std.specs.Prelude.{Ok, Err}
use Rattle.refusals.specs.Causes.{Cause}
use Rattle.lists.specs.Count.{count}
use Rattle.mesh_orders.specs.Order.{order_list}
use Rattle.newtonian.specs.Vectors.{vector_within_limits}
use Rattle.mesh.specs.Surface.{vertex}
use Rattle.mesh.specs.Check as mesh
use Rattle.prism.specs.Prism.{sides_within_limits}
use Rattle.sheet_rows.specs.Kinds.{is_mesh, known_kind, within_counts}
use Rattle.sheet_rows.specs.Row.{row_cause}
use Rattle.sheet.specs.Input.{SheetInput, vertex_count, face_count, station_count, row_at}
use Rattle.sheet.specs.Bytes.{sheet_size, sheet_bytes}

-- "out" is the lent sheet, a term of document 01: after 10, 11 and 13 the sheet's length in it is zeroed, after every other refusal it is as it was
abbrev pub zeroes_out : Refusal → Bool
zeroes_out r = leb 1 (count (number_of r) (10 ∷ 11 ∷ 13 ∷ []))

module _ (s : SheetInput) where
  -- 1: a list's length is not a multiple of 3, or no known kind
  unfoldable pub malformed : Cause
  malformed =
      unless (eqb (length s.vertices % 3) 0 && (eqb (length s.faces % 3) 0 && (eqb (length s.stations % 3) 0 && known_kind s.kind (vertex_count s) (face_count s)))) Malformed

  -- 2: a count over its limit
  unfoldable pub too_many : Cause
  too_many = unless (within_counts (vertex_count s) (face_count s) (station_count s)) TooMany

  -- 12: work is shorter than 3F, or out than the sheet
  unfoldable pub too_short : ℕ → ℕ → Cause
  too_short w o = unless (leb (length s.faces) w && leb (sheet_size s) o) TooShort

  -- 3: a number that is not finite, or over 10⁹
  unfoldable pub out_of_limits : Cause
  out_of_limits =
      or_else (mesh.out_of_limits s.vertices)
      (or_else (unless (vector_within_limits s.magnetisation && vector_within_limits s.ambient) OutOfLimits) (mesh.out_of_limits s.stations))

  -- 4: the face of the first corner that names no vertex
  unfoldable pub no_such_vertex : Cause
  no_such_vertex = mesh.no_such_vertex (vertex_count s) s.faces

  -- 9: a prism's side below 10⁻⁶
  unfoldable pub too_thin : Cause
  too_thin = unless (sides_within_limits (vertex s.vertices 0) (vertex s.vertices 1)) TooThin

  -- 5, 6, 7 and 8 of a mesh, or 9 of a prism
  unfoldable pub body_cause : Cause
  body_cause = cond (is_mesh s.kind) (mesh.order_cause s.vertices s.faces (order_list s.faces)) too_thin

  -- 10 or 11, then 13, of station i
  unfoldable pub station_cause : ℕ → Cause
  station_cause i = row_cause s.kind i (row_at s i)

  -- the causes in document 01's order: 1, 2, 12, 3, 4, the body's, and by station 10 or 11, 13
  unfoldable pub writer_cause : ℕ → ℕ → Cause
  writer_cause w o =
      or_else malformed (or_else too_many (or_else (too_short w o) (or_else out_of_limits (or_else no_such_vertex (or_else body_cause (first_of (station_count s) station_cause))))))

  -- the bytes of out, which were o; those past the sheet never change
  unfoldable pub out_after : Cause → List ℕ → List ℕ
  out_after (Ok _) o = sheet_bytes s ++ drop (sheet_size s) o
  out_after (Err r) o = cond (zeroes_out r) (replicate (sheet_size s) 0 ++ drop (sheet_size s) o) o
