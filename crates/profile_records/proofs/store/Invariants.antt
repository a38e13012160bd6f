-- `profile_records::store` meets its contract: before turn j the records of j stations are written. Assumes nothing.
use Rattle.std.proofs.Common.{◌≡◌, ◌+◌, ◌<◌, ℕ, List, Float, get_or, length}
use Rattle.newtonian.specs.declared.Newtonian.{Newtonian}
use Rattle.polyhedron_fields.specs.BlockFields.{no_field}
use Rattle.profile_records.specs.Records.{Written}
use Rattle.refusals.specs.Answer.{Answer}
use Rattle.profile_records.proofs.store.Given as goal

abbrev pub invariant-loop-j : goal.invariant-loop-j
invariant-loop-j l =
    (length l.fields ≡ length l.initial.fields)
    × ((a : ℕ → Answer Newtonian) (o : List Float) → ((i : ℕ) → i < length l.answers → a (l.first + i) ≡ get_or l.answers i no_field)
    → Written a l.first o l.initial.fields → Written a (l.first + l.j) o l.fields)
