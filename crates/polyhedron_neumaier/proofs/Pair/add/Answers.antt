-- `polyhedron_neumaier::Pair::add` meets its contract. Assumes nothing.
use Rattle.polyhedron_neumaier.specs.Neumaier.{add_term}
use Rattle.polyhedron_neumaier.proofs.Pair.add.Goals as goal
use Rattle.polyhedron_neumaier.proofs.Pair.add.Goals.{then-abs, else-abs}

pub returns : goal.returns
unfolding add_term
returns c =
    elim c.if-abs.branch [ then-abs w ↦ simp (w.loss-is, ← c.abs-2.ensures, ← c.abs.ensures, w.if-abs.true) | else-abs w ↦ simp (w.loss-is, ← c.abs-2.ensures, ← c.abs.ensures, w.if-abs.false) ]
