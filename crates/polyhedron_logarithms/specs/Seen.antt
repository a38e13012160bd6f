-- The corners in a struct, and the sides between them: the definitions of Sides at its fields. Definitions only.
use Rattle.std.specs.Prelude.{List, ℕ, Float, replicate}
use Rattle.doubles.specs.Constants.{0·0}
use Rattle.polyhedron_edge_terms.specs.declared.Corner.{Corner}
use Rattle.polyhedron_faces.specs.Parts.{FirstLanes}
use Rattle.polyhedron_faces.specs.Held.{zero_vectors}
use Rattle.polyhedron_logarithms.specs.declared.SeenCorners.{SeenCorners}
use Rattle.polyhedron_logarithms.specs.Sides.{corner_at, ratio_at, logarithm_at}

module _ (c : SeenCorners) where
  abbrev pub corner_of : ℕ → Corner
  corner_of = corner_at c.offsets.x c.offsets.y c.offsets.z c.distances

  -- of side k, whose length stands in e
  abbrev pub ratio_of : List Float → ℕ → Float
  ratio_of = ratio_at c.offsets.x c.offsets.y c.offsets.z c.distances

  abbrev pub logarithm_of : List Float → ℕ → Float
  logarithm_of = logarithm_at c.offsets.x c.offsets.y c.offsets.z c.distances

-- the first n of 24 lanes are what the sides' logarithms are of
abbrev pub HoldsRatios : ℕ → SeenCorners → List Float → List Float → Type 0
HoldsRatios n c e w = FirstLanes n (ratio_of c e) w

-- all numbers 0
abbrev pub zero_corners : SeenCorners
zero_corners = record { offsets = zero_vectors 24; distances = replicate 24 0·0 }
