-- `polyhedron_near::edge_face_sums` meets its contract: after k faces the station carries their sums. Assumes nothing.
use Rattle.std.proofs.Common.{◌≤◌}
use Rattle.newtonian.specs.Fold.{Fold}
use Rattle.mesh.specs.Surface.{face_count}
use Rattle.polyhedron_edge_face_sums.specs.Carried.{Carries}
use Rattle.polyhedron_edge_face_sums.specs.EdgeFaceSums.{add_triangle, no_faces, triangle_of}
use Rattle.polyhedron_near.proofs.edge_face_sums.Given as goal

abbrev pub invariant-loop-first : goal.invariant-loop-first
invariant-loop-first l = (l.first ≤ face_count l.mesh.faces.now) × Carries (Fold l.first (λ j. add_triangle l.p (triangle_of l.mesh.verts.now l.mesh.faces.now j)) no_faces) l.run
