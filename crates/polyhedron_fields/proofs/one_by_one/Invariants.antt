-- `polyhedron_fields::one_by_one` meets its contract: before turn j the fields of j stations are in their places. Assumes nothing.
use Rattle.std.proofs.Common.{◌≡◌, ◌+◌, ◌<◌, ℕ, get_or}
use Rattle.polyhedron_blocks.specs.Blocks.{no_vector}
use Rattle.polyhedron.specs.Polyhedron.{polyhedron_from}
use Rattle.polyhedron_fields.specs.BlockFields.{no_field}
use Rattle.polyhedron_fields.proofs.one_by_one.Given as goal

abbrev pub invariant-loop-j : goal.invariant-loop-j
invariant-loop-j l =
    let s = l.stations in
    (i : ℕ) → i < l.j → get_or l.answer-items i no_field ≡ polyhedron_from (s.first + i) (get_or s.places i no_vector) l.center.centroid l.center.radius l.mesh.verts.now l.mesh.faces.now
