-- `polyhedron_far_points::Points::add_points` meets its contract. Assumes nothing.
use mathlib.Core.Path.{◌≡◌}
use Prim.Native.Nat.{ℕ, ◌+◌, ◌-◌, ◌≤◌}
use Rattle.newtonian.specs.Fold.{Fold}
use Rattle.polyhedron_far_points.specs.Tetrahedral.{point_step}
use Rattle.polyhedron_far_points.proofs.Points.add_points.Given as goal

abbrev pub invariant-loop-k : goal.invariant-loop-k
invariant-loop-k l = (l.k ≤ 24) × (l.sums ≡ Fold l.k (λ (j : ℕ). point_step l.p l.self.x l.self.y l.self.z l.self.w (l.n + j)) l.initial.sums)

abbrev pub decreases-loop-k : goal.decreases-loop-k
decreases-loop-k l = 24 - l.k
