-- `polyhedron_far_points::Points::squares` meets its contract. Assumes nothing.
use Prim.Native.Nat.{ℕ, ◌+◌}
use Rattle.lanes.proofs.Filling.{Filled}
use Rattle.polyhedron_far_points.specs.Tetrahedral.{point_square}
use Rattle.polyhedron_far_points.proofs.Points.squares.Given as goal

abbrev pub invariant-loop-k : goal.invariant-loop-k
invariant-loop-k l = Filled 24 (λ (j : ℕ). point_square l.p l.self.x l.self.y l.self.z (l.n + j)) l.initial.q l.k l.q
