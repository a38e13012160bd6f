-- `polyhedron_far_lanes::Stations::of` meets its contract. Assumes nothing.
use Prim.Native.Nat.{ℕ}
use Rattle.lanes.proofs.Filling.{Filled}
use Rattle.polyhedron_far_lanes.specs.EightFields.{place_at}
use Rattle.polyhedron_far_lanes.proofs.Stations.of.Given as goal

abbrev pub invariant-loop-k : goal.invariant-loop-k
invariant-loop-k l =
    (Filled 8 (λ (j : ℕ). (place_at l.places j).x) l.initial.x l.k l.x) × (Filled 8 (λ (j : ℕ). (place_at l.places j).y) l.initial.y l.k l.y) × (Filled 8 (λ (j : ℕ). (place_at l.places j).z) l.initial.z l.k l.z)
