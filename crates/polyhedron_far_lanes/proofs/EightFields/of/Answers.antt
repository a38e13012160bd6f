-- `polyhedron_far_lanes::EightFields::of` meets its contract. Assumes nothing.
use Prim.Native.Nat.{ℕ}
use native.Mathlib.Omega.{arith}
use Rattle.newtonian.specs.Vectors.{zero_field}
use Rattle.polyhedron_far_points.specs.Tetrahedral.{point_at, point_step}
use Rattle.polyhedron_far_lanes.proofs.Threes.{all-points, no_point, three_more}
use Rattle.polyhedron_far_lanes.proofs.EightFields.of.Goals as goal

pub loop-n-init : goal.loop-n-init
loop-n-init c =
    let s = c.of-stations.result in
    let t = c.args.points.now in
    (omega arith, omega arith, no_point (λ (k : ℕ). point_step (point_at s.x s.y s.z k) t.x t.y t.z t.w) zero_field c.zero-f.ensures)

pub loop-n-preserved : goal.loop-n-preserved
loop-n-preserved c =
    let l = c.loop-n in
    let s = c.of-stations.result in
    let t = c.args.points.now in (
      omega (arith, l.invariant.0),
      omega (arith, c.loop-n-test.true, l.invariant.0),
      three_more (λ (k : ℕ). point_step (point_at s.x s.y s.z k) t.x t.y t.z t.w) zero_field l.n l.invariant.2 c.add_three.ensures,
    )

pub returns : goal.returns
returns c =
    let l = c.loop-n in
    let t = c.args.points.now in
    let e = c.of-stations.ensures in
    all-points c.args.places.now e.x e.y e.z t.x t.y t.z t.w l.n (omega (arith, l.invariant.1, c.loop-n-test.false)) l.invariant.2
