-- `polyhedron_eight_faces::add_faces` meets its contract. Assumes nothing.
use Rattle.newtonian.specs.Fold.{fold-none, fold_more}
use borrow.Author.Rules.{rules}
use Rattle.polyhedron_eight_faces.proofs.add_faces.Goals as goal

pub loop-k-init : goal.loop-k-init
loop-k-init c = (search rules, rw fold-none)

pub loop-k-preserved : goal.loop-k-preserved
loop-k-preserved c = (search rules, rw fold_more (simp (c.add_face-sums.ensures, c.loop-k.invariant.1)))
