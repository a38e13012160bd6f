-- `polyhedron_fields::answers` meets its contract: before turn j the fields of j stations are in their places. Assumes nothing.
use Rattle.std.proofs.Common.{◌≡◌, ◌+◌, ◌<◌, ℕ, List, Float, get_or}
use Rattle.newtonian.specs.declared.Vector.{Vector}
use Rattle.polyhedron_blocks.specs.Blocks.{no_vector}
use Rattle.polyhedron.specs.Polyhedron.{polyhedron_from}
use Rattle.polyhedron_fields.specs.BlockFields.{no_field}
use Rattle.polyhedron_fields.specs.Walked.{Walked}
use Rattle.polyhedron_fields.proofs.answers.Given as goal

abbrev pub invariant-loop-j : goal.invariant-loop-j
invariant-loop-j l =
    let s = l.stations in
    (c : Vector) (r : Float) (v : List Float) (f : List ℕ) → Walked s.n c r v f l.block l.runs l.sums
    → (i : ℕ) → i < l.j → get_or l.answer-items i no_field ≡ polyhedron_from (s.first + i) (get_or l.block.places i no_vector) c r v f
