-- `polyhedron_far_points::Points::field` meets its contract: the sums hold n points, which are whole runs. Assumes nothing.
use mathlib.Core.Path.{◌≡◌}
use Prim.Native.Nat.{◌%◌, ◌≤◌}
use Rattle.newtonian.specs.Fold.{Fold}
use Rattle.newtonian.specs.Vectors.{zero_field}
use Rattle.polyhedron_far_points.specs.Tetrahedral.{point_step}
use Rattle.polyhedron_far_points.proofs.Points.field.Given as goal

abbrev pub invariant-loop-n : goal.invariant-loop-n
invariant-loop-n l = (l.n % 24 ≡ 0) × (l.n ≤ 216) × (l.sums ≡ Fold l.n (point_step l.p l.self.x l.self.y l.self.z l.self.w) zero_field)
