-- `polyhedron_group::face_dyads` meets its contract. Assumes nothing.
use native.Mathlib.Omega.{arith}
use Rattle.polyhedron_group.proofs.FillingDyads.{one-dyad}
use Rattle.polyhedron_group.proofs.face_dyads.Goals as goal

pub loop-k-preserved : goal.loop-k-preserved
loop-k-preserved c = one-dyad c.loop-k.invariant (omega arith) (rw (c.dyad.ensures, c.at-n.ensures))
