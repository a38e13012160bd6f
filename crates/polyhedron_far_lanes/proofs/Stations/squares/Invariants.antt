-- `polyhedron_far_lanes::Stations::squares` meets its contract. Assumes nothing.
use mathlib.Core.Path.{◌≡◌}
use Prim.Native.Nat.{ℕ, ◌<◌}
use Rattle.newtonian.specs.Vectors.{difference, dot}
use Rattle.lanes.specs.Lanes.{lane}
use Rattle.polyhedron_far_points.specs.Tetrahedral.{point_at}
use Rattle.polyhedron_far_lanes.proofs.Stations.squares.Given as goal

abbrev pub invariant-loop-k : goal.invariant-loop-k
invariant-loop-k l = (j : ℕ) → j < l.k → lane l.qk-items j ≡ dot (difference l.u (point_at l.self.x l.self.y l.self.z j)) (difference l.u (point_at l.self.x l.self.y l.self.z j))
