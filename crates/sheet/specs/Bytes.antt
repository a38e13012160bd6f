-- The sheet, byte by byte, as document 01 lists its parts: vertices 24V bytes; faces 12F; order list 12F; mates 12F; stations 24S; rows 64S; trailer 80. Definitions only.
use Rattle.std.specs.Prelude.{cond, List, [], ◌∷◌, ◌++◌, ℕ, zero, suc, ◌+◌, ◌*◌, Float}
use Rattle.std.specs.Prelude.{Ok, Err}
use Rattle.refusals.specs.Answer.{Answer}
use Rattle.newtonian.specs.Vectors.{vector_numbers}
use Rattle.mesh_orders.specs.Order.{order_list}
use Rattle.mesh_orders.specs.Mates.{mates}
use Rattle.mesh.specs.Surface as surface
use Rattle.prism.specs.Prism.{prism_volume}
use Rattle.sheet_layout.specs.LittleEndian.{bits}
use Rattle.sheet_layout.specs.Parts.{Part, joined}
use Rattle.sheet_rows.specs.Kinds.{is_mesh, row_width}
use Rattle.sheet_rows.specs.Row.{row_numbers}
use Rattle.sheet_rows.specs.declared.Row.{Row}
use Rattle.sheet.specs.Input.{SheetInput, vertex_count, face_count, station_count, row_at}

-- ---- the volume

unfoldable pub volume : SheetInput → Float
volume s =
    cond (is_mesh s.kind) (surface.volume s.vertices s.faces)
    (prism_volume (surface.vertex s.vertices 0) (surface.vertex s.vertices 1))

-- ---- lengths

abbrev pub trailer_length : ℕ
trailer_length = 80

-- the bytes before the trailer, which the trailer's pointer counts, of v vertices, f faces and s stations: 24V + 36F + 88S
abbrev pub pointer_of : ℕ → ℕ → ℕ → ℕ → ℕ
pointer_of kind v f s = 24 * v + 36 * f + (24 + 8 * row_width kind) * s

-- ---- the bytes

module _ (s : SheetInput) where
  abbrev pub pointer : ℕ
  pointer = pointer_of s.kind (vertex_count s) (face_count s) (station_count s)

  abbrev pub sheet_size : ℕ
  sheet_size = pointer + trailer_length

  -- a refused row has no numbers
  abbrev pub numbers_of : Answer Row → List Float
  numbers_of (Ok r) = row_numbers s.kind r
  numbers_of (Err r) = []

  -- the rows of the first n stations, one after the other
  unfoldable pub rows : ℕ → List Float
  rows zero = []
  rows (suc n) = rows n ++ numbers_of (row_at s n)

  -- each part with the width of its numbers: 4 bytes, or 8 for a double's bits
  unfoldable pub parts : List Part
  parts =
      (8, bits s.vertices) ∷ (4, s.faces) ∷ (4, order_list s.faces) ∷ (4, mates s.faces) ∷ (8, bits s.stations) ∷ (8, bits (rows (station_count s)))
      ∷ (4, s.kind ∷ vertex_count s ∷ face_count s ∷ station_count s ∷ []) ∷ (8, bits (vector_numbers s.magnetisation)) ∷ (8, bits (vector_numbers s.ambient))
      ∷ (8, bits (volume s ∷ [])) ∷ (8, pointer ∷ []) ∷ []

  unfoldable pub sheet_bytes : List ℕ
  sheet_bytes = joined parts
