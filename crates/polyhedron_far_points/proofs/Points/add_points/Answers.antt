-- `polyhedron_far_points::Points::add_points` meets its contract. Assumes nothing.
use native.Mathlib.Omega.{arith}
use Rattle.newtonian.specs.Fold.{fold_more, fold-none}
use Rattle.polyhedron_far_points.proofs.Points.add_points.Goals as goal

pub loop-k-init : goal.loop-k-init
loop-k-init c = (omega arith, rw fold-none)

pub loop-k-preserved : goal.loop-k-preserved
loop-k-preserved c = (omega (arith, c.loop-k-test.true), rw fold_more (simp (c.add_point_at-sums.ensures, c.offset-d.ensures, c.loop-k.invariant.1)))
