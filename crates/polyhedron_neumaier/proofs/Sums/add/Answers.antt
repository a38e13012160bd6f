-- `polyhedron_neumaier::Sums::add` meets its contract. Assumes nothing.
use mathlib.Core.Path.{◌≡◌}
use native.Mathlib.Omega.{arith}
use Rattle.newtonian.specs.Fold.{fold-none, fold_more}
use Rattle.polyhedron_neumaier.specs.Neumaier.{add_terms}
use Rattle.newtonian.specs.Vectors.{field_size}
use Rattle.polyhedron_neumaier.proofs.Sums.add.Goals as goal

pub loop-k-init : goal.loop-k-init
loop-k-init c = rw fold-none

pub loop-k-preserved : goal.loop-k-preserved
loop-k-preserved c = rw fold_more (simp (c.add.ensures, c.loop-k.invariant))

pub returns : goal.returns
unfolding add_terms
returns c =
    let e : c.loop-k.k ≡ field_size = omega arith in
    cc
