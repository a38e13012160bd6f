-- `polyhedron_faces::raw_sides_8` meets its contract. Assumes nothing.
use Rattle.std.specs.Prelude.{ℕ, ◌+◌}
use Rattle.lanes.proofs.Filling.{Filled}
use Rattle.newtonian.specs.declared.Vector.{Vector}
use Rattle.polyhedron_faces.specs.Parts.{edge_at, raw_side, square}
use Rattle.polyhedron_faces.proofs.FillingVectors.{FilledVectors}
use Rattle.polyhedron_faces.proofs.raw_sides_8.Given as goal

abbrev pub invariant-loop-k : goal.invariant-loop-k
invariant-loop-k l =
    let s : ℕ → Vector = raw_side l.corners.x l.corners.y l.corners.z l.normals.x l.normals.y l.normals.z in
    let e : ℕ → Vector = edge_at l.corners.x l.corners.y l.corners.z in record {
      sides : FilledVectors 24 s l.initial.m (l.from + l.k) l.m;
      normals : Filled 24 (λ (i : ℕ). square (s i)) l.initial.q (l.from + l.k) l.q;
      edges : Filled 24 (λ (i : ℕ). square (e i)) l.initial.d (l.from + l.k) l.d;
    }
