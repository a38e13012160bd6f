-- The sums of the far stations of a block of eight. Definitions only.
use Rattle.std.specs.Prelude.{◌≡◌, Bool, false, List, [], ℕ, ◌<◌, length, get_or}
use Rattle.newtonian.specs.Vectors.{field_numbers}
use Rattle.polyhedron_neumaier.specs.Neumaier.{add_terms}
use Rattle.polyhedron_neumaier.specs.declared.Pair.{Pair}
use Rattle.polyhedron_neumaier.specs.declared.Sums.{Sums}
use Rattle.polyhedron_far_points.specs.PointsOf.{field_of}
use Rattle.polyhedron_far_points.specs.declared.Points.{Points}
use Rattle.polyhedron_far_lanes.specs.EightFields.{place_at}
use Rattle.polyhedron_far.specs.declared.Block.{Block}

-- a far station is one that is not near
abbrev pub IsFar : List Bool → ℕ → Type 0
IsFar near i = get_or near i false ≡ false

-- what stands past the last station
abbrev pub no_station : Sums
no_station = record { pairs = [] }

-- station i's sums
abbrev pub sums_at : List Sums → ℕ → List Pair
sums_at sums i = (get_or sums i no_station).pairs

-- of eight stations, the sums of each far one were those in before, and are now g of them; of the near ones nothing is said
pub record FarSums (near : List Bool) (g : ℕ → List Pair → List Pair) (before after : List Sums) : Type 0 where
  pub size : length after ≡ 8
  pub at : (i : ℕ) → i < 8 → IsFar near i → sums_at after i ≡ g i (sums_at before i)

-- the field of the points t at each far station's place, added to its sums
abbrev pub PointsAdded : Block → Points → List Sums → List Sums → Type 0
PointsAdded b t = FarSums b.near (λ i s. add_terms s (field_numbers (field_of (place_at b.places i) t)))
