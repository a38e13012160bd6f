-- The writer's causes of refusal from 4 on, in the steps of the code. Definitions only.
use Rattle.std.specs.Prelude.{◌≡◌, List, ℕ, Ok}
use Rattle.refusals.specs.Answer.{Answer, or_answer}
use Rattle.refusals.specs.Causes.{Cause, or_else, first_of}
use Rattle.mesh.specs.Check.{work_after}
use Rattle.sheet.specs.Input.{SheetInput, station_count}
use Rattle.sheet.specs.Bytes.{sheet_size}
use Rattle.sheet.specs.Writer.{station_cause, out_after}
use Rattle.sheet_body.specs.BodyChecked.{check_body_cause}

-- the body's causes, and by station 10 or 11, 13
abbrev pub late_cause : SheetInput → Cause
late_cause s = or_else (check_body_cause s) (first_of (station_count s) (station_cause s))

-- the equations of `Writes`, for the first cause c that was found: the answer is r, work w has become p, out o has become q
pub record Leaves (s : SheetInput) (c : Cause) (w o : List ℕ) (r : Answer ℕ) (p q : List ℕ) : Type 0 where
  pub answer : r ≡ or_answer c (Ok (sheet_size s))
  pub work : p ≡ work_after c s.faces w
  pub out : q ≡ out_after s c o

-- and for the causes from 4 on
abbrev pub LeavesLate : SheetInput → List ℕ → List ℕ → Answer ℕ → List ℕ → List ℕ → Type 0
LeavesLate s w o r p q = Leaves s (late_cause s) w o r p q
