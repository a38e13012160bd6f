-- `polyhedron_eight_faces::add_face` meets its contract. Assumes nothing.
use Prim.Native.Nat.{◌+◌}
use native.Mathlib.Omega.{arith}
use Rattle.polyhedron_eight_faces.specs.EightFaces.{add_face_at}
use Rattle.polyhedron_eight_faces.proofs.Adding.{side_dyad_lem}
use Rattle.polyhedron_eight_faces.proofs.add_face.Goals as goal

pub add_side-ab-requires : goal.add_side-ab-requires
add_side-ab-requires c =
    let l = c.requires.k_bound in
    (omega (arith, l), side_dyad_lem c.args.g.now c.requires.dyads c.args.k c.args.k (omega (arith, l)) (omega (arith, l)) c.at-n.ensures)

pub add_side-bc-requires : goal.add_side-bc-requires
add_side-bc-requires c =
    let l = c.requires.k_bound in
    (omega (arith, l), side_dyad_lem c.args.g.now c.requires.dyads (8 + c.args.k) c.args.k (omega (arith, l)) (omega (arith, l)) c.at-n.ensures)

pub add_side-requires : goal.add_side-requires
add_side-requires c =
    let l = c.requires.k_bound in
    (omega (arith, l), side_dyad_lem c.args.g.now c.requires.dyads (16 + c.args.k) c.args.k (omega (arith, l)) (omega (arith, l)) c.at-n.ensures)

pub returns : goal.returns
unfolding add_face_at
returns c =
    rw (
      c.add_side.ensures,
      c.add_side-bc.ensures,
      c.add_side-ab.ensures,
      c.add_face_dyad-face.ensures,
      c.dot-rho.ensures,
      c.at.ensures,
      c.at-n.ensures,
    )
