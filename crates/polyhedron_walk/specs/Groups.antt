-- No part of the field's definition: what a group of faces adds to the sums of each near station of a block. v is the vertex list and f the face list of a mesh. Definitions only.
use Rattle.std.specs.Prelude.{◌≡◌, true, false, List, ℕ, ◌<◌, Float, get_or}
use Rattle.polyhedron_edge_face_sums.specs.Carried.{Adds}
use Rattle.polyhedron_edge_face_sums.specs.declared.Running.{Running}
use Rattle.polyhedron_blocks.specs.Blocks.{block_size, no_run, no_vector}
use Rattle.polyhedron_far.specs.declared.Block.{Block}

-- whatever sums a near station has before, it has them with the n faces from the face first on after
abbrev pub BlockAdds : Block → List Float → List ℕ → ℕ → ℕ → List Running → List Running → Type 0
BlockAdds b v f first n runs₀ runs =
    (i : ℕ) → i < block_size → get_or b.near i false ≡ true → Adds (get_or b.places i no_vector) v f first n (get_or runs₀ i no_run) (get_or runs i no_run)
