-- `mesh::surface::is_zero` meets its contract. Assumes nothing.
use mathlib.Core.Path.{sym, ◌∙◌}
use Rattle.mesh.specs.Surface.{is_zero}
use Rattle.mesh.proofs.surface.is_zero.Goals.{then-n, else-n}
use Rattle.mesh.proofs.surface.is_zero.Goals as goal

pub returns-then-n-2 : goal.returns-then-n-2
unfolding is_zero
returns-then-n-2 c = elim c.if-n.branch [ then-n w ↦ simp (w.if-n.true, sym w.value-is ∙ c.if-n-2.true) | else-n w ↦ cc ]

pub returns-else-n-2 : goal.returns-else-n-2
unfolding is_zero
returns-else-n-2 c = elim c.if-n.branch [ then-n w ↦ simp (w.if-n.true, sym w.value-is ∙ c.if-n-2.false, c.if-n-2.false) | else-n w ↦ simp (w.if-n.false, c.if-n-2.false) ]
