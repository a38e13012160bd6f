-- What the structs hold: the facts of Sight at their fields. Definitions only.
use Rattle.std.specs.Prelude.{List, ℕ, Float, replicate}
use Rattle.doubles.specs.Constants.{0·0}
use Rattle.newtonian.specs.declared.Vector.{Vector}
use Rattle.polyhedron_edge_terms.specs.declared.Corner.{Corner}
use Rattle.polyhedron_faces.specs.declared.Vectors.{Vectors}
use Rattle.polyhedron_logarithms.specs.declared.SeenCorners.{SeenCorners}
use Rattle.polyhedron_logarithms.specs.Seen.{zero_corners}
use Rattle.polyhedron_sight.specs.declared.SeenFaces.{SeenFaces}
use Rattle.polyhedron_sight.specs.Sight.{Sight, Corners, triple_at, denominator_at, angle_at}

-- of the faces with these corners and with sides of the lengths e, the station p sees s
abbrev pub Sees : Vector → Vectors 24 → List Float → SeenFaces → Type 0
Sees p c e s = let o = s.corners.offsets in Sight p c.x c.y c.z e o.x o.y o.z s.logarithms s.angles

-- the first n corners are c 0, c 1, ..
abbrev pub HoldsCorners : ℕ → (ℕ → Corner) → SeenCorners → Type 0
HoldsCorners n c s = Corners n c s.offsets.x s.offsets.y s.offsets.z s.distances

module _ (c : SeenCorners) where
  -- of face k
  abbrev pub triple_of : ℕ → Float
  triple_of = triple_at c.offsets.x c.offsets.y c.offsets.z c.distances

  abbrev pub denominator_of : ℕ → Float
  denominator_of = denominator_at c.offsets.x c.offsets.y c.offsets.z c.distances

  abbrev pub angle_of : (ℕ → Vector) → ℕ → Float
  angle_of = angle_at c.offsets.x c.offsets.y c.offsets.z c.distances

-- all numbers 0
abbrev pub zero_seen : SeenFaces
zero_seen = record { corners = zero_corners; logarithms = replicate 24 0·0; angles = replicate 8 0·0 }
