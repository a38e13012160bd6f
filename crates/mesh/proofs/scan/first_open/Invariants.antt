-- `mesh::scan::first_open` meets its contract: the reverse of each edge so far occurs. Assumes nothing.
use mathlib.Core.Path.{◌≡◌}
use Rattle.std.specs.Prelude.{Ok}
use Rattle.refusals.specs.Causes.{unless, first_of}
use Rattle.mesh.specs.Check.{reverse_occurs, open_at}
use Rattle.mesh.proofs.scan.first_open.Given as goal

abbrev pub invariant-loop-i : goal.invariant-loop-i
invariant-loop-i l = first_of l.i (λ j. unless (reverse_occurs l.ordered.faces.now l.ordered.order.now j) (open_at l.ordered.faces.now l.ordered.order.now j)) ≡ Ok tt
