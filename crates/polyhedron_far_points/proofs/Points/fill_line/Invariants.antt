-- `polyhedron_far_points::Points::fill_line` meets its contract. Assumes nothing.
use Prim.Native.Nat.{◌+◌, ◌*◌, ◌-◌, ◌≤◌}
use Rattle.polyhedron_tetrahedra.specs.Mapped.{points}
use Rattle.polyhedron_far_points.specs.Tetrahedral.{FirstPoints}
use Rattle.polyhedron_far_points.proofs.Points.fill_line.Given as goal

abbrev pub invariant-loop-t : goal.invariant-loop-t
invariant-loop-t l = (l.t ≤ points) × FirstPoints l.a l.s (6 * l.m + l.t) l.self.x l.self.y l.self.z l.self.w

abbrev pub decreases-loop-t : goal.decreases-loop-t
decreases-loop-t l = points - l.t
