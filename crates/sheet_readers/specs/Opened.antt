-- What is known of bytes that none of the causes 16, 1 and 2 refuses. Definitions only.
use Rattle.std.specs.Prelude.{◌≡◌, true, List, ℕ, ◌+◌, ◌≤◌, length}
use Rattle.mesh_orders.specs.Edges.{max_vertices, max_faces, max_stations}
use Rattle.sheet.specs.Bytes.{trailer_length}
use Rattle.sheet_rows.specs.Kinds.{known_kind}
use Rattle.sheet.specs.Checker.{kind_in, vertices_in, faces_in, stations_in, pointer_for}

pub record Opened (b : List ℕ) : Type 0 where
  pub trailer : trailer_length ≤ length b
  pub whole : length b ≡ pointer_for b + trailer_length
  pub known : known_kind (kind_in b) (vertices_in b) (faces_in b) ≡ true
  pub vertices : vertices_in b ≤ max_vertices
  pub faces : faces_in b ≤ max_faces
  pub stations : stations_in b ≤ max_stations
