-- What an accepted mesh is, in document 01's terms. Definitions only; crate mesh_laws shows that `check_mesh` accepts exactly where they hold.
use Rattle.std.specs.Prelude.{◌≡◌, true, false, List, ℕ, ◌%◌, ◌≤◌, ◌<◌, length, get_or, Float}
use Rattle.std.specs.Float.{nan}
use Rattle.std.specs.Float.Ieee.{lt}
use Rattle.doubles.specs.Constants.{0·0}
use Rattle.doubles.specs.Magnitude.{within_limits}
use Rattle.lists.specs.Count.{Below}
use Rattle.mesh_orders.specs.Edges.{max_vertices, max_faces, from, to, occurrences}
use Rattle.mesh.specs.Surface.{vertex_count, face_count, Body, normal, is_zero, volume}

-- none of the causes 1, 2 and 12 holds, for a work list of n entries
pub record Counted (v : List Float) (f : List ℕ) (n : ℕ) : Type 0 where
  pub coordinates : length v % 3 ≡ 0
  pub corners : length f % 3 ≡ 0
  pub vertices : vertex_count v ≤ max_vertices
  pub faces : face_count f ≤ max_faces
  pub room : length f ≤ n

-- nor 3, nor 4: every coordinate is finite and of magnitude at most 10⁹, and every corner names a vertex
pub record Sound (v : List Float) (f : List ℕ) (n : ℕ) : Type 0 where
  pub counted : Counted v f n
  pub numbers : (i : ℕ) → i < length v → within_limits (get_or v i nan) ≡ true
  pub inside : Below f (vertex_count v)

-- closed and consistently wound: of the 3F edge uses exactly one has each edge, and exactly one its reverse
pub record Closed (f : List ℕ) : Type 0 where
  pub once : (u : ℕ) → u < length f → occurrences f (from f u) (to f u) ≡ 1
  pub back : (u : ℕ) → u < length f → occurrences f (to f u) (from f u) ≡ 1

-- the same of all pairs of vertices: no edge occurs twice, and the reverse of each that occurs does too
pub record ClosedPairs (f : List ℕ) : Type 0 where
  pub once : (a b : ℕ) → occurrences f a b ≤ 1
  pub back : (a b : ℕ) → 1 ≤ occurrences f a b → 1 ≤ occurrences f b a

-- what the causes 4 to 8 leave of a mesh whose counts are within the limits: for callers that judge the numbers themselves
pub record Checked (v : List Float) (f : List ℕ) : Type 0 where
  pub body : Body v f
  pub closed : Closed f
  pub normals : (k : ℕ) → k < face_count f → is_zero (normal v f k) ≡ false
  pub positive : lt 0·0 (volume v f) ≡ true

-- an accepted mesh: closed, no computed normal is zero, and the computed volume, which is the answer x, is above 0
pub record Accepted (v : List Float) (f : List ℕ) (n : ℕ) (x : Float) : Type 0 where
  pub sound : Sound v f n
  pub closed : Closed f
  pub normals : (k : ℕ) → k < face_count f → is_zero (normal v f k) ≡ false
  pub positive : lt 0·0 (volume v f) ≡ true
  pub answer : x ≡ volume v f
