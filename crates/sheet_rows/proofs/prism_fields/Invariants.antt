-- `sheet_rows::prism_fields` meets its contract: before turn j the fields of j stations are in their places. Assumes nothing.
use Rattle.std.proofs.Common.{◌≡◌, ◌+◌, ◌<◌, ℕ, get_or}
use Rattle.mesh.specs.Surface.{vertex}
use Rattle.prism.specs.Prism.{prism_at}
use Rattle.polyhedron_blocks.specs.Blocks.{no_vector}
use Rattle.polyhedron_fields.specs.BlockFields.{no_field}
use Rattle.sheet_rows.specs.Kinds.{axis_rule}
use Rattle.sheet_rows.proofs.prism_fields.Given as goal

abbrev pub invariant-loop-j : goal.invariant-loop-j
invariant-loop-j l =
    let s = l.stations in
    (i : ℕ) → i < l.j → get_or l.answer-items i no_field ≡ prism_at (axis_rule l.kind) (s.first + i) (get_or s.places i no_vector) (vertex l.verts 0) (vertex l.verts 1)
