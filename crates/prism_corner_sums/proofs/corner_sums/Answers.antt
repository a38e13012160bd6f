-- `prism_corner_sums::corner_sums` meets its contract. Assumes nothing.
use mathlib.Core.Path.{◌≡◌}
use native.Mathlib.Omega.{arith}
use Rattle.newtonian.specs.Fold.{fold-none, fold_more}
use Rattle.prism_corner_sums.specs.CornerSums.{corner_sums}
use borrow.Author.Rules.{rules}
use Rattle.prism_corner_sums.proofs.corner_sums.Goals as goal

pub loop-k-init : goal.loop-k-init
loop-k-init c = (search rules, rw fold-none c.zero_field-f.ensures)

pub loop-k-preserved : goal.loop-k-preserved
loop-k-preserved c = (search rules, rw fold_more (simp (c.add_corner_terms-f.ensures, c.corner_at.ensures, c.sign.ensures, c.loop-k.invariant.1)))

pub returns : goal.returns
unfolding corner_sums
returns c =
    let e : c.loop-k.k ≡ 8 = omega arith in
    rw e at c.loop-k.invariant.1
