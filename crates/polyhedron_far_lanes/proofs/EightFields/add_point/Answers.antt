-- `polyhedron_far_lanes::EightFields::add_point` meets its contract. Assumes nothing.
use mathlib.Core.Path.{ap, ap₂, ◌∙◌}
use Prim.Native.Nat.{◌<◌}
use native.Mathlib.Omega.{arith}
use Rattle.newtonian.specs.Point.{add_point}
use Rattle.newtonian.specs.Vectors.{difference}
use Rattle.polyhedron_far_lanes.proofs.Putting.{one_field}
use Rattle.polyhedron_far_lanes.proofs.EightFields.add_point.Goals as goal

pub loop-k-preserved : goal.loop-k-preserved
loop-k-preserved c =
    let l = c.loop-k in
    let s = c.args in
    let h : l.k < 8 = c.loop-k-test.true in
    let e = ap₂ (add_point s.w) (c.difference.ensures ∙ ap (difference s.u) c.at-p.ensures) (c.at-f.ensures ∙ l.invariant.1.rest l.k (omega arith) h) in
    (omega (arith, h), one_field l.k c.add_point_at-v.result l.invariant.1 h (c.add_point_at-v.ensures ∙ e) c.put.ensures)
