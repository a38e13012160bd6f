-- A counting loop that sets eight of 24 lanes, from lane s on. States: `row_goes_on`, `row_of_vectors`: how it goes on in one list and in vectors; `all_lanes`: after the last row.
-- Assumes nothing.
use mathlib.Core.Path.{◌≡◌}
use mathlib.Core.List.{List}
use Prim.Native.Nat.{ℕ, ◌+◌, ◌<◌}
use native.Mathlib.Omega.{arith}
use lib.Ieee.{Float}
use lib.ListN.{set}
use Rattle.newtonian.specs.declared.Vector.{Vector}
use Rattle.lanes.specs.Lanes.{Lanes}
use Rattle.lanes.proofs.Filling.{Filled, one-filled}
use Rattle.polyhedron_faces.specs.Parts.{FirstLanes}
use Rattle.polyhedron_faces.specs.Held.{HasLanes}
use Rattle.polyhedron_faces.specs.declared.Vectors.{Vectors}
use Rattle.polyhedron_faces.proofs.FillingVectors.{FilledVectors, one-vector, set_vector}

pub all_lanes : {g : ℕ → Float} {w : List Float} → FirstLanes 24 g w → Lanes 24 g w
all_lanes f = record { size = f.size; at = f.at }

module _ (s k : ℕ) where
  pub row_goes_on : {g : ℕ → Float} {w₀ w : List Float} {v : Float} → Filled 24 g w₀ (s + k) w → s + k < 24 → v ≡ g (s + k) → Filled 24 g w₀ (s + (k + 1)) (set w (s + k) v)
  row_goes_on f h e = let q : s + (k + 1) ≡ s + k + 1 = omega arith in rw q (one-filled f h e)

  pub row_of_vectors : {g : ℕ → Vector} {v₀ v : Vectors 24} {w : Vector} → FilledVectors 24 g v₀ (s + k) v → s + k < 24 → HasLanes 24 (set_vector v (s + k) w) → w ≡ g (s + k)
      → FilledVectors 24 g v₀ (s + (k + 1)) (set_vector v (s + k) w)
  row_of_vectors f h m e = let q : s + (k + 1) ≡ s + k + 1 = omega arith in rw q (one-vector f h m e)
