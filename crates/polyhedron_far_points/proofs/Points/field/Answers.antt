-- `polyhedron_far_points::Points::field` meets its contract. Assumes nothing.
use mathlib.Core.Path.{◌≡◌}
use native.Mathlib.Omega.{arith}
use Rattle.newtonian.specs.Fold.{fold-none}
use Rattle.lanes.proofs.Folds.{fold-add}
use Rattle.polyhedron_far_points.specs.Tetrahedral.{point_count, points_field}
use Rattle.polyhedron_far_points.proofs.Points.field.Goals as goal

pub loop-n-init : goal.loop-n-init
loop-n-init c = (omega arith, omega arith, rw fold-none c.zero_field-sums.ensures)

pub loop-n-preserved : goal.loop-n-preserved
loop-n-preserved c =
    let l = c.loop-n in
    (omega (arith, l.invariant.0), omega (arith, c.loop-n-test.true, l.invariant.0), rw (fold-add l.n 24) (simp (c.add_points-sums.ensures, l.invariant.2)))

pub returns : goal.returns
unfolding points_field
returns c =
    let l = c.loop-n in
    let e : l.n ≡ point_count = omega (arith, l.invariant.1, c.loop-n-test.false) in
    rw e at l.invariant.2
