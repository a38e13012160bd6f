-- `polyhedron_far_one::face_sums` meets its contract. Assumes nothing.
use mathlib.Core.Path.{◌≡◌}
use Prim.Native.Nat.{◌≤◌}
use Rattle.newtonian.specs.Fold.{Fold}
use Rattle.mesh.specs.Surface.{face_count}
use Rattle.polyhedron_neumaier.specs.Neumaier.{no_sums}
use Rattle.polyhedron_tetrahedra.specs.Tetrahedra.{add_tetrahedron}
use Rattle.polyhedron_far_one.proofs.face_sums.Given as goal

abbrev pub invariant-loop-k : goal.invariant-loop-k
invariant-loop-k l =
    (l.k ≤ face_count l.mesh.faces.now) × (l.sums.pairs ≡ Fold l.k (add_tetrahedron l.p l.apex l.mesh.verts.now l.mesh.faces.now) no_sums)
