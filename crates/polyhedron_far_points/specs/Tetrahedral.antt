-- The 216 points of a tetrahedron and their weights, in the order in which `tetrahedron_field` adds them: point 36 i + 6 j + t is the one at node i along u, node j along v
-- and node t along t. Definitions only.
use Rattle.std.specs.Prelude.{◌≡◌, List, ℕ, ◌/◌, ◌%◌, ◌<◌, Float, length}
use Rattle.doubles.specs.Rounded.{◌⊗◌}
use Rattle.newtonian.specs.Fold.{Fold}
use Rattle.newtonian.specs.Vectors.{difference, dot, zero_field}
use Rattle.newtonian.specs.declared.Vector.{Vector}
use Rattle.newtonian.specs.declared.Newtonian.{Newtonian}
use Rattle.newtonian.specs.Point.{add_point}
use Rattle.polyhedron_tetrahedra.specs.Tetrahedra.{duffy, line_weight}
use Rattle.polyhedron_tetrahedra.specs.Mapped.{mapped_node, mapped_weight}
use Rattle.polyhedron_tetrahedra.specs.declared.Tetrahedron.{Tetrahedron}
use Rattle.lanes.specs.Lanes.{lane}

-- how many points a tetrahedron has
abbrev pub point_count : ℕ
point_count = 216

-- point n of the tetrahedron s with the apex a, and its weight
unfoldable pub point_in : Vector → Tetrahedron → ℕ → Vector
point_in a s n = duffy a s (mapped_node (n / 36)) (mapped_node (n / 6 % 6)) (mapped_node (n % 6))

unfoldable pub weight_in : Tetrahedron → ℕ → Float
weight_in s n = line_weight s.vol6 (mapped_node (n / 36)) (mapped_node (n / 6 % 6)) (mapped_weight (n / 36)) (mapped_weight (n / 6 % 6)) ⊗ mapped_weight (n % 6)

-- ---- the points in arrays

-- the vector in lane n of three arrays
abbrev pub point_at : List Float → List Float → List Float → ℕ → Vector
point_at x y z n = record { x = lane x n; y = lane y n; z = lane z n }

-- the lengths of the arrays that hold points and weights
pub record Room (x y z w : List Float) : Type 0 where
  pub of_x : length x ≡ point_count
  pub of_y : length y ≡ point_count
  pub of_z : length z ≡ point_count
  pub of_w : length w ≡ point_count

-- the first n points of the tetrahedron s with the apex a stand in x, y and z, and their weights in w
pub record FirstPoints (a : Vector) (s : Tetrahedron) (n : ℕ) (x y z w : List Float) : Type 0 where
  pub room : Room x y z w
  pub point : (i : ℕ) → i < n → point_at x y z i ≡ point_in a s i
  pub weight : (i : ℕ) → i < n → lane w i ≡ weight_in s i

-- the squared distance of point n of x, y, z from p
abbrev pub point_square : Vector → List Float → List Float → List Float → ℕ → Float
point_square p x y z n = dot (difference (point_at x y z n) p) (difference (point_at x y z n) p)

-- the field at p of the points x, y, z with the weights w
abbrev pub point_step : Vector → List Float → List Float → List Float → List Float → ℕ → Newtonian → Newtonian
point_step p x y z w n = add_point (lane w n) (difference (point_at x y z n) p)

unfoldable pub points_field : Vector → List Float → List Float → List Float → List Float → Newtonian
points_field p x y z w = Fold point_count (point_step p x y z w) zero_field
