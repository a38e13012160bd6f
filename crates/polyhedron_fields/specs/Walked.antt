-- No part of the field's definition: a block of stations after the walk over the faces. Definitions only.
use Rattle.std.specs.Prelude.{◌≡◌, true, false, List, ℕ, ◌<◌, Float, get_or, not, Bool}
use Rattle.newtonian.specs.Fold.{Fold}
use Rattle.newtonian.specs.declared.Vector.{Vector}
use Rattle.mesh.specs.Surface.{face_count}
use Rattle.polyhedron_edge_face_sums.specs.EdgeFaceSums.{sums_of}
use Rattle.polyhedron_edge_face_sums.specs.declared.Running.{Running}
use Rattle.polyhedron_neumaier.specs.Neumaier.{no_sums}
use Rattle.polyhedron_neumaier.specs.declared.Pair.{Pair}
use Rattle.polyhedron_neumaier.specs.declared.Sums.{Sums}
use Rattle.polyhedron_tetrahedra.specs.Tetrahedra.{add_tetrahedron}
use Rattle.polyhedron_blocks.specs.Blocks.{block_size, no_vector, CarriesAt}
use Rattle.polyhedron_far.specs.Far.{sums_at}
use Rattle.polyhedron_far.specs.declared.Block.{Block}
use Rattle.polyhedron.specs.Polyhedron.{is_far}

-- the station at p is near the body with the centroid c and the radius r: the edge and face sums give its field
abbrev pub is_near : Vector → Vector → Float → Bool
is_near p c r = not (is_far p c r)

-- the sums of the tetrahedra of all faces, whose totals are the field of a far station
abbrev pub far_sums : Vector → Vector → List Float → List ℕ → List Pair
far_sums p c v f = Fold (face_count f) (add_tetrahedron p c v f) no_sums

-- which of the first n stations of a block are near; and each that the walk took as near, or as far, has the sums of all faces
pub record Walked (n : ℕ) (c : Vector) (r : Float) (v : List Float) (f : List ℕ) (b : Block) (runs : List Running) (sums : List Sums) : Type 0 where
  pub nears : (j : ℕ) → j < n → get_or b.near j false ≡ is_near (get_or b.places j no_vector) c r
  pub near_sums : (j : ℕ) → j < block_size → get_or b.near j false ≡ true → CarriesAt j (sums_of (get_or b.places j no_vector) v f) runs
  pub sums_far : (j : ℕ) → j < n → get_or b.near j false ≡ false → sums_at sums j ≡ far_sums (get_or b.places j no_vector) c v f
