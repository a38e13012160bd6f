-- `polyhedron_group::raw_normals` meets its contract. Assumes nothing.
use mathlib.Core.Path.{◌≡◌, ap, ◌∙◌}
use Prim.Native.Nat.{◌<◌}
use native.Mathlib.Omega.{arith}
use Rattle.lanes.proofs.Filling.{one-filled}
use Rattle.polyhedron_faces.specs.Parts.{square}
use Rattle.polyhedron_group.specs.Group.{raw_normal}
use Rattle.polyhedron_faces.proofs.FillingVectors.{one-vector}
use Rattle.polyhedron_group.proofs.raw_normals.Goals as goal

pub loop-k-preserved : goal.loop-k-preserved
loop-k-preserved c =
    let l = c.loop-k in
    let m : l.k < 8 = omega (arith, c.loop-k-test.true) in
    let v = c.args.corners.now in
    let e : c.cross-n.result ≡ raw_normal v.x v.y v.z l.k =
    rw (c.cross-n.ensures, c.difference-in-loop-k.ensures, c.difference.ensures, c.at-c.ensures, c.at-b.ensures, c.at-a.ensures) in
    (let s = c.set.ensures in rw s.written (one-vector l.invariant.0 m (rw s.written at s.whole) e), one-filled l.invariant.1 m (c.dot.ensures ∙ ap square e))
