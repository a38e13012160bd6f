-- `polyhedron_far_points::Points::fill` meets its contract. Assumes nothing.
use Prim.Native.Nat.{◌*◌, ◌-◌, ◌≤◌}
use Rattle.polyhedron_far_points.specs.Tetrahedral.{FirstPoints}
use Rattle.polyhedron_far_points.proofs.Points.fill.Given as goal

abbrev pub invariant-loop-m : goal.invariant-loop-m
invariant-loop-m l = (l.m ≤ 36) × FirstPoints l.a l.s (6 * l.m) l.self.x l.self.y l.self.z l.self.w

abbrev pub decreases-loop-m : goal.decreases-loop-m
decreases-loop-m l = 36 - l.m
