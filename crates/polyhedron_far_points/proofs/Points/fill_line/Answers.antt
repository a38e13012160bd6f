-- `polyhedron_far_points::Points::fill_line` meets its contract. Assumes nothing.
use mathlib.Core.Path.{ap, ◌∙◌}
use Prim.Native.Nat.{◌+◌, ◌*◌, ◌<◌}
use native.Mathlib.Omega.{arith}
use lib.Ieee.{Float}
use Rattle.doubles.specs.Rounded.{◌⊗◌}
use Rattle.lanes.specs.Lanes.{lane}
use Rattle.polyhedron_tetrahedra.specs.Mapped.{points}
use Rattle.polyhedron_far_points.proofs.Pointed.{one-point, point-is, so_many, weight_is}
use Rattle.polyhedron_far_points.proofs.Points.fill_line.Goals as goal

pub loop-t-preserved : goal.loop-t-preserved
loop-t-preserved c =
    let l = c.loop-t in
    let m = c.args.m in
    let lm = c.requires.0 in
    let t = l.t in
    let lt : t < points = c.loop-t-test.true in
    let en = c.args.rule.now.nodes_mapped in
    let ew = c.args.rule.now.weights_mapped in
    let f = one-point (6 * m + t) c.duffy-q.result (c.line_weight-c.result ⊗ lane c.args.rule.now.weights t) l.invariant.1 (omega (arith, lm, lt))
    (c.duffy-q.ensures ∙ point-is c.args.a c.args.s c.args.rule.now.nodes c.args.rule.now.weights m t lm lt en ew)
    (ap (λ (q : Float). q ⊗ lane c.args.rule.now.weights t) c.line_weight-c.ensures
    ∙ weight_is c.args.a c.args.s c.args.rule.now.nodes c.args.rule.now.weights m t lm lt en ew) in
    (omega (arith, lt), so_many (6 * m + t + 1) (6 * m + (t + 1)) (omega arith) f)
