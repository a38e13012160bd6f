-- The first cause of the stages after the opening (16, 1 and 2): of the lists (3, 4, 17, 18), of the body (7 and 8 or 9, 19), and by station (10 or 11, 13, 20).
-- Definitions only; `Staged` (checker) shows that the opening and these are `checkerCause`.
use Rattle.std.specs.Prelude.{List, ℕ}
use Rattle.refusals.specs.Causes.{Cause, or_else}
use Rattle.checker_lists.specs.Stages.{lists_cause, volume_cause, stations_cause}

unfoldable pub later_cause : List ℕ → Cause
later_cause b = or_else (lists_cause b) (or_else (volume_cause b) (stations_cause b))
