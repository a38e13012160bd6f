-- `mesh::scan::no_such_vertex` meets its contract: each corner so far names a vertex. Assumes nothing.
use mathlib.Core.Path.{◌≡◌}
use Rattle.refusals.specs.declared.Refusal.TheVariants.{NoSuchVertex}
use Rattle.std.specs.Prelude.{Ok}
use Rattle.refusals.specs.Causes.{unless, first_of}
use Prim.Native.Nat.{◌/◌}
use Rattle.mesh.specs.Check.{names_vertex}
use Rattle.mesh.proofs.scan.no_such_vertex.Given as goal

abbrev pub invariant-loop-i : goal.invariant-loop-i
invariant-loop-i l = first_of l.i (λ j. unless (names_vertex l.vertices l.faces j) (NoSuchVertex (j / 3))) ≡ Ok tt
