-- What `put_sheet` is handed, and what it leaves where the sheet was to be. Definitions only.
use Rattle.std.specs.Prelude.{◌≡◌, true, false, List, ℕ, ◌%◌, ◌≤◌, Float, length, replicate}
use Rattle.refusals.specs.Causes.{first_of}
use Rattle.std.specs.Prelude.{Ok, Err}
use Rattle.refusals.specs.Causes.{Cause}
use Rattle.mesh_orders.specs.Edges.{max_vertices, max_stations, Faces}
use Rattle.mesh_orders.specs.Order.{order_list}
use Rattle.mesh.specs.Surface.{Body}
use Rattle.sheet_rows.specs.Kinds.{is_mesh}
use Rattle.sheet.specs.Input.{SheetInput, vertex_count, station_count}
use Rattle.sheet.specs.Bytes.{volume, sheet_size, sheet_bytes}
use Rattle.sheet.specs.Writer.{station_cause}

-- a body that was checked, with its order list o and volume x, for a sheet of n bytes
pub record Prepared (s : SheetInput) (o : List ℕ) (x : Float) (n : ℕ) : Type 0 where
  pub coordinates : length s.vertices % 3 ≡ 0
  pub triples : length s.stations % 3 ≡ 0
  pub vertices : vertex_count s ≤ max_vertices
  pub stations : station_count s ≤ max_stations
  pub faces : Faces s.faces
  pub body : is_mesh s.kind ≡ true → Body s.vertices s.faces
  pub corners : is_mesh s.kind ≡ false → 6 ≤ length s.vertices
  pub order : o ≡ order_list s.faces
  pub measured : x ≡ volume s
  pub room : n ≡ sheet_size s

-- the sheet, or zeros after a refusal
unfoldable pub sheet_or_zeros : SheetInput → Cause → List ℕ
sheet_or_zeros s (Ok _) = sheet_bytes s
sheet_or_zeros s (Err r) = replicate (sheet_size s) 0

-- the cause r that it gives, and the bytes, which become p
pub record SheetPut (s : SheetInput) (r : Cause) (p : List ℕ) : Type 0 where
  pub cause : r ≡ first_of (station_count s) (station_cause s)
  pub bytes : p ≡ sheet_or_zeros s r
