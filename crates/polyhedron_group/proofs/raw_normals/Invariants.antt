-- `polyhedron_group::raw_normals` meets its contract. Assumes nothing.
use Prim.Native.Nat.{ℕ}
use Rattle.lanes.proofs.Filling.{Filled}
use Rattle.newtonian.specs.declared.Vector.{Vector}
use Rattle.polyhedron_faces.specs.Parts.{square}
use Rattle.polyhedron_group.specs.Group.{raw_normal}
use Rattle.polyhedron_faces.proofs.FillingVectors.{FilledVectors}
use Rattle.polyhedron_group.proofs.raw_normals.Given as goal

abbrev pub invariant-loop-k : goal.invariant-loop-k
invariant-loop-k l =
    let n : ℕ → Vector = raw_normal l.corners.x l.corners.y l.corners.z in
    FilledVectors 8 n l.initial.normals l.k l.normals × Filled 8 (λ (j : ℕ). square (n j)) l.initial.q l.k l.q
