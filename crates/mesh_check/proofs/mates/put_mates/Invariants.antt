-- `mesh_check::mates::put_mates` meets its contract: so far, the mates of the first k uses of the order list are written. Assumes nothing.
use Rattle.mesh_check.proofs.MatesPut.{PutSoFar}
use Rattle.mesh_check.proofs.mates.put_mates.Given as goal

abbrev pub invariant-loop-k : goal.invariant-loop-k
invariant-loop-k l = PutSoFar l.order l.partners l.out l.k
