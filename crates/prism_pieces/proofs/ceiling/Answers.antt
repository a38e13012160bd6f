-- `prism_pieces::ceiling` meets its contract. Assumes nothing.
use mathlib.Core.Path.{◌≡◌}
use native.Mathlib.Omega.{arith}
use Rattle.legendre.specs.GaussLegendre.{max_order}
use Rattle.newtonian.specs.Fold.{fold-none, fold_more}
use Rattle.prism_pieces.specs.Choice.{ceiling}
use borrow.Author.Rules.{rules}
use Rattle.prism_pieces.proofs.ceiling.Goals.{else-i-x, then-i-x}
use Rattle.prism_pieces.proofs.ceiling.Goals as goal

pub loop-i-init : goal.loop-i-init
loop-i-init c = (search rules, search rules, rw fold-none)

pub loop-i-preserved : goal.loop-i-preserved
loop-i-preserved c =
    let l = c.loop-i in
    elim c.if-i-x.branch [ then-i-x w ↦ (search rules, omega arith, rw fold_more (simp (w.n-is, w.if-i-x.true, ← l.invariant.2))) | else-i-x w ↦ (search rules, omega arith, rw fold_more (simp (w.n-is, w.if-i-x.false, ← l.invariant.2))) ]

pub returns : goal.returns
unfolding ceiling
returns c =
    let e : c.loop-i.i ≡ max_order = omega arith in
    rw e at c.loop-i.invariant.2
