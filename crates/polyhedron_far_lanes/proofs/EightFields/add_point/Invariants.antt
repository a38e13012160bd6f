-- `polyhedron_far_lanes::EightFields::add_point` meets its contract. Assumes nothing.
use Prim.Native.Nat.{ℕ, ◌-◌, ◌≤◌}
use Rattle.newtonian.specs.Point.{add_point}
use Rattle.newtonian.specs.Vectors.{difference}
use Rattle.polyhedron_far_points.specs.Tetrahedral.{point_at}
use Rattle.polyhedron_far_lanes.specs.EightFields.{field_at}
use Rattle.polyhedron_far_lanes.proofs.Putting.{Upto}
use Rattle.polyhedron_far_lanes.proofs.EightFields.add_point.Given as goal

abbrev pub invariant-loop-k : goal.invariant-loop-k
invariant-loop-k l = (l.k ≤ 8) × Upto (λ (j : ℕ). add_point l.w (difference l.u (point_at l.stations.x l.stations.y l.stations.z j)) (field_at l.initial.self.numbers j)) l.initial.self.numbers l.k l.self.numbers

abbrev pub decreases-loop-k : goal.decreases-loop-k
decreases-loop-k l = 8 - l.k
