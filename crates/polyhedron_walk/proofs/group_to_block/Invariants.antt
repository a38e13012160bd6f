-- `polyhedron_walk::group_to_block` meets its contract: the first j stations have the group, and the others what they had. Assumes nothing.
use Rattle.std.proofs.Common.{◌≡◌, ◌<◌, ◌≤◌, ℕ, get_or, true, false}
use Rattle.polyhedron_blocks.specs.Blocks.{no_run, no_vector}
use Rattle.polyhedron_edge_face_sums.specs.Carried.{Adds}
use Rattle.polyhedron_walk.proofs.group_to_block.Given as goal

abbrev pub invariant-loop-j : goal.invariant-loop-j
invariant-loop-j l =
    ((i : ℕ) → i < l.j → get_or l.block.near i false ≡ true →
    Adds (get_or l.block.places i no_vector) l.faces.range.mesh.verts.now l.faces.range.mesh.faces.now l.faces.range.first l.faces.range.n (get_or l.initial.runs i no_run) (get_or l.runs i no_run))
    × ((i : ℕ) → l.j ≤ i → get_or l.runs i no_run ≡ get_or l.initial.runs i no_run)
