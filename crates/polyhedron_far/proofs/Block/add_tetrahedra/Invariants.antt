-- `polyhedron_far::Block::add_tetrahedra` meets its contract. Assumes nothing.
use Prim.Native.Nat.{ℕ, ◌+◌, ◌≤◌}
use Rattle.newtonian.specs.Fold.{Fold}
use Rattle.polyhedron_tetrahedra.specs.Tetrahedra.{add_tetrahedron}
use Rattle.polyhedron_far_lanes.specs.EightFields.{place_at}
use Rattle.polyhedron_far.specs.Far.{FarSums}
use Rattle.polyhedron_far.proofs.Block.add_tetrahedra.Given as goal

abbrev pub invariant-loop-k : goal.invariant-loop-k
invariant-loop-k l =
    (l.k ≤ l.range.n) × FarSums l.self.near (λ (i : ℕ). Fold l.k (λ (j : ℕ). add_tetrahedron (place_at l.self.places i) l.apex l.range.mesh.verts.now l.range.mesh.faces.now (l.range.first + j))) l.initial.sums l.sums
