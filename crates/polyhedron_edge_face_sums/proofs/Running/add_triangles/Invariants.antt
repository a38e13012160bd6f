-- `polyhedron_edge_face_sums::Running::add_triangles` meets its contract: the sums so far are the fold so far. Assumes nothing.
use Rattle.std.proofs.Common.{◌-◌}
use Rattle.polyhedron_edge_face_sums.specs.Carried.{Adds}
use Rattle.polyhedron_edge_face_sums.proofs.Running.add_triangles.Given as goal

abbrev pub invariant-loop-k : goal.invariant-loop-k
invariant-loop-k l = Adds l.p l.range.mesh.verts.now l.range.mesh.faces.now l.range.first (l.k - l.range.first) l.initial.self l.self
