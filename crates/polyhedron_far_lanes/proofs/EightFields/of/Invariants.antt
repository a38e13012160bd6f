-- `polyhedron_far_lanes::EightFields::of` meets its contract: the fields hold n points, which are threes. Assumes nothing.
use mathlib.Core.Path.{◌≡◌}
use Prim.Native.Nat.{ℕ, ◌%◌, ◌≤◌}
use Rattle.newtonian.specs.Fold.{Fold}
use Rattle.newtonian.specs.Vectors.{zero_field}
use Rattle.polyhedron_far_points.specs.Tetrahedral.{point_at, point_step}
use Rattle.polyhedron_far_lanes.specs.EightFields.{Fields}
use Rattle.polyhedron_far_lanes.proofs.EightFields.of.Given as goal

abbrev pub invariant-loop-n : goal.invariant-loop-n
invariant-loop-n l =
    (l.n % 3 ≡ 0) × (l.n ≤ 216) × Fields (λ (k : ℕ). Fold l.n (point_step (point_at l.stations.x l.stations.y l.stations.z k) l.points.x l.points.y l.points.z l.points.w) zero_field) l.f.numbers
