-- What it is that no cause of refusal holds, what an accepted sheet is, and what a written one is, as plain statements. Definitions only; `Demand3` says that the
-- writer and the checker answer so exactly where they hold.
use Rattle.std.specs.Prelude.{◌≡◌, true, false, List, [], ◌∷◌, ◌++◌, ◌⊎◌, ℕ, ◌+◌, ◌*◌, ◌%◌, ◌≤◌, ◌<◌, ◌^◌, T, length, get_or, take, drop, Float}
use Rattle.std.specs.Float.{binary64, nan}
use Rattle.std.specs.Float.Ieee.{lt, le, to_bits, fits}
use Rattle.std.specs.Float.Ieee.Scale.{finite}
use Rattle.doubles.specs.Constants.{0·0}
use Rattle.doubles.specs.Rounded.{◌⊖◌}
use Rattle.doubles.specs.Magnitude.{within_limits}
use Rattle.std.specs.Prelude.{Ok}
use Rattle.newtonian.specs.Vectors.{vector_numbers}
use Rattle.newtonian.specs.declared.Vector.{Vector}
use Rattle.lists.specs.Count.{Below}
use Rattle.mesh_orders.specs.Edges.{max_vertices, max_faces, max_stations, occurrences}
use Rattle.mesh.specs.Surface as surface
use Rattle.mesh.specs.Accepted.{Closed}
use Rattle.prism.specs.Prism.{min_side}
use Rattle.sheet_layout.specs.LittleEndian.{pack, bits}
use Rattle.sheet_rows.specs.Kinds.{is_mesh, is_prism}
use Rattle.sheet_rows.specs.Row.{row_numbers}
use Rattle.sheet_rows.specs.declared.Row.{Row}
use Rattle.sheet.specs.Input.{SheetInput, vertex_count, face_count, station_count, row_at}
use Rattle.sheet.specs.Bytes.{volume, sheet_size, sheet_bytes}
use Rattle.sheet.specs.Checker.{trailer, kind_in, vertices_in, faces_in, stations_in, volume_in, stations_start, row_start, row_length, parse, checker_cause}

-- ---- no cause of refusal

-- each of the three numbers is finite and of magnitude at most 10⁹
pub record VectorInLimits (v : Vector) : Type 0 where
  pub x : within_limits v.x ≡ true
  pub y : within_limits v.y ≡ true
  pub z : within_limits v.z ≡ true

-- and each of a list
abbrev pub AllInLimits : List Float → Type 0
AllInLimits xs = (i : ℕ) → i < length xs → within_limits (get_or xs i nan) ≡ true

-- the definitions give a field at station i, and all numbers of its row are finite
pub record FiniteRow (s : SheetInput) (i : ℕ) : Type 0 where
  pub row : Row
  pub given : row_at s i ≡ Ok row
  pub numbers : (j : ℕ) → j < length (row_numbers s.kind row) → finite (get_or (row_numbers s.kind row) j nan) ≡ true

-- a prism's side from lo to hi is not below 10⁻⁶
abbrev pub SideInLimits : Float → Float → Type 0
SideInLimits lo hi = le min_side (hi ⊖ lo) ≡ true

-- a kind that document 01 has: a mesh, or a prism of two vertices, min and max, and no faces
abbrev pub KindKnown : SheetInput → Type 0
KindKnown s = (is_mesh s.kind ≡ true) ⊎ ((is_prism s.kind ≡ true) × ((vertex_count s ≡ 2) × (face_count s ≡ 0)))

-- document 01's causes of the writer's order, each denied by itself; w and o are the lengths of work and out
pub record NoCause (s : SheetInput) (w o : ℕ) : Type 0 where
  -- 1
  pub coordinates : length s.vertices % 3 ≡ 0
  pub corners : length s.faces % 3 ≡ 0
  pub triples : length s.stations % 3 ≡ 0
  pub known : KindKnown s
  -- 2
  pub vertices : vertex_count s ≤ max_vertices
  pub faces : face_count s ≤ max_faces
  pub stations : station_count s ≤ max_stations
  -- 12
  pub work : length s.faces ≤ w
  pub out : sheet_size s ≤ o
  -- 3
  pub vertex-numbers : AllInLimits s.vertices
  pub magnetisation : VectorInLimits s.magnetisation
  pub ambient : VectorInLimits s.ambient
  pub station-numbers : AllInLimits s.stations
  -- 4
  pub inside : Below s.faces (vertex_count s)
  -- 5 and 6
  pub once : (a b : ℕ) → occurrences s.faces a b ≤ 1
  pub back : (a b : ℕ) → 1 ≤ occurrences s.faces a b → 1 ≤ occurrences s.faces b a
  -- 7 and 8
  pub normals : is_mesh s.kind ≡ true → (k : ℕ) → k < face_count s → surface.is_zero (surface.normal s.vertices s.faces k) ≡ false
  pub positive : is_mesh s.kind ≡ true → lt 0·0 (volume s) ≡ true
  -- 9
  pub side_x : is_prism s.kind ≡ true → SideInLimits (surface.vertex s.vertices 0).x (surface.vertex s.vertices 1).x
  pub side_y : is_prism s.kind ≡ true → SideInLimits (surface.vertex s.vertices 0).y (surface.vertex s.vertices 1).y
  pub side_z : is_prism s.kind ≡ true → SideInLimits (surface.vertex s.vertices 0).z (surface.vertex s.vertices 1).z
  -- 10, 11 and 13
  pub rows : (i : ℕ) → i < station_count s → FiniteRow s i

-- ---- an accepted sheet

-- the definitions give a row at station i, and its bits are what the sheet b has there
pub record RowStored (b : List ℕ) (i : ℕ) : Type 0 where
  pub row : Row
  pub given : row_at (parse b) i ≡ Ok row
  pub stored : take (row_length b) (drop (row_start b i) b) ≡ pack 8 (bits (row_numbers (kind_in b) row))

-- b was accepted with kind k and S = n
pub record Right (b : List ℕ) (k n : ℕ) : Type 0 where
  pub kind : k ≡ kind_in b
  pub stations : n ≡ stations_in b
  -- each edge occurs exactly once among the 3F uses, and its reverse exactly once
  pub closed : Closed (parse b).faces
  pub normals : (j : ℕ) → j < faces_in b → surface.is_zero (surface.normal (parse b).vertices (parse b).faces j) ≡ false
  -- the volume is the computed one, and above 0, for both kinds
  pub measured : volume_in b ≡ to_bits binary64 (volume (parse b))
  pub positive : lt 0·0 (volume (parse b)) ≡ true
  -- each row is the definition's
  pub rows : (i : ℕ) → i < n → RowStored b i
  -- in every byte it is the sheet of what it holds, of which no cause of refusal holds
  pub whole : b ≡ sheet_bytes (parse b)
  pub sound : NoCause (parse b) (length (parse b).faces) (length b)

-- two sheets agree bit for bit in kind, V, F, S, magnetisation and ambient field (the trailer's first 64 bytes), in vertices and faces, and in the stations
pub record SameGiven (b c : List ℕ) : Type 0 where
  pub header : take 64 (drop (trailer b) b) ≡ take 64 (drop (trailer c) c)
  pub body : take (24 * vertices_in b + 12 * faces_in b) b ≡ take (24 * vertices_in c + 12 * faces_in c) c
  pub stations : take (24 * stations_in b) (drop (stations_start b) b) ≡ take (24 * stations_in c) (drop (stations_start c) c)

-- ---- a written sheet

-- what the code's types say of what was given: each double is one of binary64, each integer a u32
abbrev pub VectorFits : Vector → Type 0
VectorFits v = T (fits binary64 v.x) × (T (fits binary64 v.y) × T (fits binary64 v.z))

pub record Typed (s : SheetInput) : Type 0 where
  pub kind : s.kind < 2 ^ 32
  pub vertices : (i : ℕ) → T (fits binary64 (get_or s.vertices i nan))
  pub faces : (i : ℕ) → get_or s.faces i 0 < 2 ^ 32
  pub magnetisation : VectorFits s.magnetisation
  pub ambient : VectorFits s.ambient
  pub stations : (i : ℕ) → T (fits binary64 (get_or s.stations i nan))

-- b holds, bit for bit, what was given, and the checker accepts it
pub record Kept (s : SheetInput) (b : List ℕ) : Type 0 where
  pub holds : parse b ≡ s
  pub header :
      take 64 (drop (trailer b) b)
      ≡ pack 4 (s.kind ∷ vertex_count s ∷ face_count s ∷ station_count s ∷ []) ++ pack 8 (bits (vector_numbers s.magnetisation)) ++ pack 8 (bits (vector_numbers s.ambient))
  pub body : take (24 * vertex_count s + 12 * face_count s) b ≡ pack 8 (bits s.vertices) ++ pack 4 s.faces
  pub stations : take (24 * station_count s) (drop (stations_start b) b) ≡ pack 8 (bits s.stations)
  pub accepted : checker_cause b ≡ Ok tt
