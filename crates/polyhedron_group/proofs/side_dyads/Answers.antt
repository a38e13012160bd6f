-- `polyhedron_group::side_dyads` meets its contract. Assumes nothing.
use native.Mathlib.Omega.{arith}
use Rattle.polyhedron_group.proofs.FillingDyads.{one-dyad}
use Rattle.polyhedron_group.proofs.side_dyads.Goals as goal

pub loop-i-preserved : goal.loop-i-preserved
loop-i-preserved c = one-dyad c.loop-i.invariant (omega arith) (rw (c.dyad.ensures, c.at-m.ensures, c.at-n.ensures))
