-- `polyhedron_neumaier::Sums::add` meets its contract. Assumes nothing.
use mathlib.Core.Path.{◌≡◌}
use Rattle.newtonian.specs.Fold.{Fold}
use Rattle.polyhedron_neumaier.specs.Neumaier.{add_term_at}
use Rattle.polyhedron_neumaier.proofs.Sums.add.Given as goal

abbrev pub invariant-loop-k : goal.invariant-loop-k
invariant-loop-k l = l.pair-items ≡ Fold l.k (add_term_at l.terms) l.initial.pair-items
