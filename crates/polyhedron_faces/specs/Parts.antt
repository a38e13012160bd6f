-- No part of the definition of the faces: what the arrays hold on the way to it. Definitions only.
use Rattle.std.specs.Prelude.{◌≡◌, List, ℕ, ◌+◌, ◌%◌, ◌<◌, Float, length}
use Rattle.newtonian.specs.Vectors.{cross, difference, dot}
use Rattle.newtonian.specs.declared.Vector.{Vector}
use Rattle.lanes.specs.Lanes.{lane, Lanes}
use Rattle.polyhedron_faces.specs.Faces.{vector_at}

-- three arrays of n lanes hold the vectors g 0, g 1, .., g (n - 1)
pub record Vectors (n : ℕ) (g : ℕ → Vector) (x y z : List Float) : Type 0 where
  pub on_x : Lanes n (λ (k : ℕ). (g k).x) x
  pub on_y : Lanes n (λ (k : ℕ). (g k).y) y
  pub on_z : Lanes n (λ (k : ℕ). (g k).z) z

-- a·a
abbrev pub square : Vector → Float
square a = dot a a

-- of corners in arrays: side i, from its corner to the next of the same face, and its normal in the plane of the face, not yet of length 1
abbrev pub edge_at : List Float → List Float → List Float → ℕ → Vector
edge_at cx cy cz i = difference (vector_at cx cy cz ((i + 8) % 24)) (vector_at cx cy cz i)

abbrev pub raw_side : List Float → List Float → List Float → List Float → List Float → List Float → ℕ → Vector
raw_side cx cy cz nx ny nz i = cross (edge_at cx cy cz i) (vector_at nx ny nz (i % 8))

-- the first n of 24 lanes are g 0, g 1, .., g (n - 1)
pub record FirstLanes (n : ℕ) (g : ℕ → Float) (w : List Float) : Type 0 where
  pub size : length w ≡ 24
  pub at : (i : ℕ) → i < n → lane w i ≡ g i

-- the first n sides: their normals, the squares of these, and the squares of the sides themselves
pub record RawSides (n : ℕ) (cx cy cz nx ny nz x y z q d : List Float) : Type 0 where
  pub on_x : FirstLanes n (λ (i : ℕ). (raw_side cx cy cz nx ny nz i).x) x
  pub on_y : FirstLanes n (λ (i : ℕ). (raw_side cx cy cz nx ny nz i).y) y
  pub on_z : FirstLanes n (λ (i : ℕ). (raw_side cx cy cz nx ny nz i).z) z
  pub normals : FirstLanes n (λ (i : ℕ). square (raw_side cx cy cz nx ny nz i)) q
  pub edges : FirstLanes n (λ (i : ℕ). square (edge_at cx cy cz i)) d
