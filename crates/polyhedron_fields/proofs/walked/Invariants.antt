-- `polyhedron_fields::walked` meets its contract: after k faces each near station carries their sums, and each far one has the sums of their tetrahedra. Assumes nothing.
use mathlib.Core.Bool.{false, true}
use mathlib.Core.Path.{◌≡◌}
use Prim.Native.Nat.{ℕ, ◌≤◌, ◌<◌}
use lib.ListN.{get_or}
use Rattle.newtonian.specs.Fold.{Fold}
use Rattle.mesh.specs.Surface.{face_count}
use Rattle.polyhedron_edge_face_sums.specs.EdgeFaceSums.{add_triangle, no_faces, triangle_of}
use Rattle.polyhedron_blocks.specs.Blocks.{CarriesAt, block_size, no_vector}
use Rattle.polyhedron_far.specs.Far.{sums_at}
use Rattle.polyhedron_neumaier.specs.Neumaier.{no_sums}
use Rattle.polyhedron_tetrahedra.specs.Tetrahedra.{add_tetrahedron}
use Rattle.polyhedron_fields.proofs.walked.Given as goal

abbrev pub invariant-loop-k : goal.invariant-loop-k
invariant-loop-k l =
    (l.k ≤ face_count l.mesh.faces.now)
    × ((i : ℕ) → i < block_size → get_or l.block.near i false ≡ true → CarriesAt i (Fold l.k (λ j. add_triangle (get_or l.block.places i no_vector) (triangle_of l.mesh.verts.now l.mesh.faces.now j)) no_faces) l.runs)
    × ((i : ℕ) → i < block_size → get_or l.not_far.near i false ≡ false → sums_at l.sums i ≡ Fold l.k (add_tetrahedron (get_or l.not_far.places i no_vector) l.center.centroid l.mesh.verts.now l.mesh.faces.now) no_sums)
