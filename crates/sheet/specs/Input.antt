-- What a sheet is made from, and its counts V, F and S. Definitions only.
use Rattle.std.specs.Prelude.{List, ℕ, ◌/◌, Float, length}
use Rattle.refusals.specs.Answer.{Answer}
use Rattle.newtonian.specs.declared.Vector.{Vector}
use Rattle.mesh.specs.Surface as surface
use Rattle.sheet_rows.specs.Row as row
use Rattle.sheet_rows.specs.declared.Row.{Row}
use Rattle.sheet.specs.declared.Source.{Source}

-- three coordinates to a vertex and to a station, three vertex numbers to a face
pub record SheetInput : Type 0 where
  pub kind : ℕ
  pub vertices : List Float
  pub faces : List ℕ
  pub magnetisation : Vector
  pub ambient : Vector
  pub stations : List Float

-- of a function's arguments
abbrev pub input_of : ℕ → List Float → List ℕ → Vector → Vector → List Float → SheetInput
input_of kind v f m b st = record { kind = kind; vertices = v; faces = f; magnetisation = m; ambient = b; stations = st }

-- of the record that the code hands on
abbrev pub source_input : Source → SheetInput
source_input s = input_of s.kind s.verts.now s.faces.now s.magnetisation s.ambient s.stations.now

module _ (s : SheetInput) where
  abbrev pub vertex_count : ℕ
  vertex_count = surface.vertex_count s.vertices

  abbrev pub face_count : ℕ
  face_count = surface.face_count s.faces

  abbrev pub station_count : ℕ
  station_count = length s.stations / 3

  -- three coordinates, as a vertex has
  abbrev pub station_at : ℕ → Vector
  station_at i = surface.vertex s.stations i

  -- the row of station i, or its refusal by 10 or 11
  unfoldable pub row_at : ℕ → Answer Row
  row_at i = row.row_at s.kind s.magnetisation s.ambient i (station_at i) s.vertices s.faces
