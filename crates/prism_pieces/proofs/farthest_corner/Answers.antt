-- `prism_pieces::farthest_corner` meets its contract. Assumes nothing.
use mathlib.Core.Path.{◌≡◌}
use native.Mathlib.Omega.{arith}
use Rattle.newtonian.specs.Fold.{fold-none, fold_more}
use Rattle.prism_pieces.specs.Choice.{farthest_corner}
use borrow.Author.Rules.{rules}
use Rattle.prism_pieces.proofs.farthest_corner.Goals as goal

pub loop-k-init : goal.loop-k-init
loop-k-init c = (search rules, rw fold-none)

pub loop-k-preserved : goal.loop-k-preserved
loop-k-preserved c = (search rules, rw fold_more cc)

pub returns : goal.returns
unfolding farthest_corner
returns c =
    let e : c.loop-k.k ≡ 8 = omega arith in
    rw e at c.loop-k.invariant.1
