-- What lists are that `write_obj` writes, as plain statements: `Writable`. Definitions only.
use Rattle.std.specs.Prelude.{◌≡◌, Bool, true, false, List, ℕ, ◌*◌, ◌%◌, ◌≤◌, ◌<◌, ℤ, pos, neg_ℤ, length, get_or, Float}
use Rattle.std.proofs.Math.IntN.{nat_abs}
use Rattle.std.specs.Float.{nan}
use Rattle.std.specs.Float.Ieee.Positive.{num, den}
use Rattle.std.specs.Float.Ieee.Scale.{finite}
use Rattle.doubles.specs.Magnitude.{negative}
use Rattle.mesh_orders.specs.Edges.{max_vertices, max_faces}
use Rattle.mesh.specs.Surface.{vertex_count, face_count}
use Rattle.obj.specs.Writer.{text_of, max_coordinate}

-- n, or its opposite
abbrev pub signed : Bool → ℕ → ℤ
signed false n = pos n
signed true n = neg_ℤ (pos n)

-- the double x is the integer z: finite, |x| = num x / den x = |z|, and with its sign; −0 is 0
pub record Means (x : Float) (z : ℤ) : Type 0 where
  pub number : finite x ≡ true
  pub size : num x ≡ nat_abs z * den x
  pub sign : signed (negative x) (nat_abs z) ≡ z

-- x is an integer of magnitude at most the limit
pub record WholeWithin (limit : ℕ) (x : Float) : Type 0 where
  pub z : ℤ
  pub means : Means x z
  pub small : nat_abs z ≤ limit

-- the lists v and f are written into a lent text of n bytes
pub record Writable (v : List Float) (f : List ℕ) (n : ℕ) : Type 0 where
  -- 1
  pub coordinates : length v % 3 ≡ 0
  pub corners : length f % 3 ≡ 0
  -- 2
  pub vertices : vertex_count v ≤ max_vertices
  pub faces : face_count f ≤ max_faces
  -- 3: each coordinate is a whole number of magnitude at most 10⁹
  pub values : (i : ℕ) → i < length v → WholeWithin max_coordinate (get_or v i nan)
  -- 4
  pub indices : (i : ℕ) → i < length f → get_or f i 0 < vertex_count v
  -- 12
  pub room : length (text_of v f) ≤ n
