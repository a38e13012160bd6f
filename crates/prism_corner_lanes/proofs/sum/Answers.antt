-- `prism_corner_lanes::sum` meets its contract. Assumes nothing.
use Rattle.newtonian.specs.Fold.{fold-none, fold_more}
use borrow.Author.Rules.{rules}
use Rattle.prism_corner_lanes.proofs.sum.Goals as goal

pub loop-k-init : goal.loop-k-init
loop-k-init c = (search rules, rw fold-none c.zero_field-f.ensures)

pub loop-k-preserved : goal.loop-k-preserved
loop-k-preserved c = (
  search rules,
  rw fold_more (simp (c.add_corner_terms-f.ensures, c.sign.ensures, c.third-in-loop-k-2.ensures, c.third-in-loop-k.ensures, c.third.ensures, c.loop-k.invariant.1)),
)
