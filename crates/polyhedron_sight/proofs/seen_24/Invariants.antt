-- `polyhedron_sight::seen_24` meets its contract. Assumes nothing.
use Prim.Native.Nat.{ℕ}
use Rattle.newtonian.specs.Vectors.{dot}
use Rattle.polyhedron_edge_terms.specs.declared.Corner.{Corner}
use Rattle.lanes.proofs.Filling.{Filled}
use Rattle.polyhedron_faces.proofs.FillingVectors.{FilledVectors}
use Rattle.polyhedron_sight.specs.Sight.{seen_at}
use Rattle.polyhedron_sight.proofs.seen_24.Given as goal

abbrev pub invariant-loop-k : goal.invariant-loop-k
invariant-loop-k l =
    let s : ℕ → Corner = seen_at l.p l.corners.x l.corners.y l.corners.z in
    FilledVectors 24 (λ (j : ℕ). (s j).r) l.initial.c.offsets l.k l.c.offsets × Filled 24 (λ (j : ℕ). dot (s j).r (s j).r) l.initial.q l.k l.q
