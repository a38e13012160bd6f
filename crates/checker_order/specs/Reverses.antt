-- The lists that are scanned, and what the scan of the mates tests of a face. Definitions only.
use Rattle.std.specs.Prelude.{◌≡◌, Bool, ◌&&◌, List, ℕ, ◌+◌, ◌*◌, ◌%◌, ◌≤◌, length}
use Rattle.mesh_orders.specs.Edges.{max_faces}
use Rattle.sheet_layout.specs.LittleEndian.{unpack}
use Rattle.sheet.specs.Checker.{is_reverse}

-- a face list f, an order list o as long, and room for as many mates in the bytes b from place at on
pub record Listed (f o b : List ℕ) (at : ℕ) : Type 0 where
  pub triples : length f % 3 ≡ 0
  pub few : length f ≤ 3 * max_faces
  pub order : length o ≡ length f
  pub mates : at + 4 * length f ≤ length b

-- the mates of the face list f, where b is their bytes
abbrev pub mates_of : List ℕ → List ℕ → List ℕ
mates_of f b = unpack 4 (length f) b 0

-- f is the face list, m its mates: those of the edge uses i, i + 1 and i + 2 are reverses
unfoldable pub reverses : List ℕ → List ℕ → ℕ → Bool
reverses f m i = is_reverse f m i && (is_reverse f m (i + 1) && is_reverse f m (i + 2))
