-- `polyhedron_group::corners` meets its contract. Assumes nothing.
use Prim.Native.Nat.{ℕ, ◌/◌, ◌%◌}
use Rattle.mesh.specs.Surface.{corner, face_count}
use Rattle.polyhedron_group.specs.Group.{face_in}
use Rattle.polyhedron_faces.proofs.FillingVectors.{FilledVectors}
use Rattle.polyhedron_group.proofs.corners.Given as goal

abbrev pub invariant-loop-i : goal.invariant-loop-i
invariant-loop-i l = FilledVectors 24 (λ (j : ℕ). corner l.mesh.verts.now l.mesh.faces.now (face_in l.first (face_count l.mesh.faces.now) (j % 8)) (j / 8)) l.initial.c l.i l.c
