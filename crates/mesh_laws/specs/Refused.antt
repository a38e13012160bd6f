-- What each refusal of a mesh says, in document 01's terms. Definitions only; `EarlyLaws` and `Laws` show that `check_mesh` refuses so exactly where they hold and no cause before does.
use Rattle.std.specs.Prelude.{◌≡◌, true, false, List, ◌⊎◌, ℕ, ◌+◌, ◌*◌, ◌%◌, ◌≤◌, ◌<◌, length, get_or, Float}
use Rattle.std.specs.Float.{nan}
use Rattle.doubles.specs.Magnitude.{within_limits}
use Rattle.mesh_orders.specs.Edges.{max_vertices, max_faces, occurrences}
use Rattle.mesh.specs.Surface.{vertex_count, face_count, normal, is_zero}

-- 1: the length of a list is not a multiple of 3
abbrev pub NotTriples : List Float → List ℕ → Type 0
NotTriples v f = (length v % 3 ≡ 0 → ⊥) ⊎ (length f % 3 ≡ 0 → ⊥)

-- its contrary: both are
abbrev pub Triples : List Float → List ℕ → Type 0
Triples v f = (length v % 3 ≡ 0) × (length f % 3 ≡ 0)

-- 2: more vertices or faces than the limit
abbrev pub OverLimit : List Float → List ℕ → Type 0
OverLimit v f = (max_vertices < vertex_count v) ⊎ (max_faces < face_count f)

-- its contrary: no more of either
abbrev pub CountsWithin : List Float → List ℕ → Type 0
CountsWithin v f = (vertex_count v ≤ max_vertices) × (face_count f ≤ max_faces)

-- 3: number i of v is not finite or over 10⁹
pub record NumberOutside (v : List Float) : Type 0 where
  pub i : ℕ
  pub number : i < length v
  pub itself : within_limits (get_or v i nan) ≡ false

-- its contrary: every number is within the limits
abbrev pub NumbersWithin : List Float → Type 0
NumbersWithin v = (i : ℕ) → i < length v → within_limits (get_or v i nan) ≡ true

-- 4: k is the first face with a corner that names no vertex
pub record FirstNoVertex (v : List Float) (f : List ℕ) (k : ℕ) : Type 0 where
  pub face : k < face_count f
  pub j : ℕ
  pub corner : j < 3
  pub itself : vertex_count v ≤ get_or f (3 * k + j) 0
  pub before : (i : ℕ) → i < 3 * k → get_or f i 0 < vertex_count v

-- (a, b) comes before (c, d), by from and then by to, or is the same
abbrev pub NotAfter : ℕ → ℕ → ℕ → ℕ → Type 0
NotAfter a b c d = (a < c) ⊎ ((a ≡ c) × (b ≤ d))

-- Flipped: (a, b) is the smallest edge that occurs twice
pub record SmallestTwice (f : List ℕ) (a b : ℕ) : Type 0 where
  pub itself : 2 ≤ occurrences f a b
  pub least : (c d : ℕ) → 2 ≤ occurrences f c d → NotAfter a b c d

-- Open: (a, b) is the smallest edge whose reverse does not occur
pub record SmallestOpen (f : List ℕ) (a b : ℕ) : Type 0 where
  pub itself : 1 ≤ occurrences f a b
  pub alone : occurrences f b a ≡ 0
  pub least : (c d : ℕ) → 1 ≤ occurrences f c d → occurrences f d c ≡ 0 → NotAfter a b c d

-- Degenerate: k is the first face whose computed normal is zero
pub record FirstDegenerate (v : List Float) (f : List ℕ) (k : ℕ) : Type 0 where
  pub face : k < face_count f
  pub itself : is_zero (normal v f k) ≡ true
  pub before : (j : ℕ) → j < k → is_zero (normal v f j) ≡ false
