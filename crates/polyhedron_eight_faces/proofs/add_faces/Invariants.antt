-- `polyhedron_eight_faces::add_faces` meets its contract. Assumes nothing.
use mathlib.Core.Path.{◌≡◌}
use Prim.Native.Nat.{◌≤◌}
use Rattle.newtonian.specs.Fold.{Fold}
use Rattle.polyhedron_eight_faces.specs.Held.{add_face_of}
use Rattle.polyhedron_eight_faces.proofs.add_faces.Given as goal

abbrev pub invariant-loop-k : goal.invariant-loop-k
invariant-loop-k l = (l.k ≤ l.count) × (l.sums ≡ Fold l.k (add_face_of l.g l.s) l.initial.sums)
