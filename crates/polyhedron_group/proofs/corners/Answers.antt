-- `polyhedron_group::corners` meets its contract. Assumes nothing.
use Prim.Native.Nat.{◌%◌, ◌<◌}
use native.Mathlib.Omega.{arith}
use Rattle.mesh.specs.Surface.{face_count}
use Rattle.polyhedron_faces.proofs.FillingVectors.{one-vector}
use Rattle.polyhedron_group.proofs.Places.{face-below}
use Rattle.polyhedron_group.proofs.corners.Goals as goal

pub corner-v-requires : goal.corner-v-requires
corner-v-requires c =
    let i = c.loop-i.i in
    let l : i < 24 = c.loop-i-test.true in
    let h : c.face_in-f.result < face_count c.args.mesh.faces.now = rw (c.face_in-f.ensures, c.face_count-n.ensures) (face-below c.args.first (face_count c.args.mesh.faces.now) (i % 8) c.requires) in
    omega (arith, h, l)

pub loop-i-preserved : goal.loop-i-preserved
loop-i-preserved c = let e = c.set.ensures in rw e.written (one-vector c.loop-i.invariant (omega arith) (rw e.written at e.whole) (rw (c.corner-v.ensures, c.face_in-f.ensures, c.face_count-n.ensures)))
