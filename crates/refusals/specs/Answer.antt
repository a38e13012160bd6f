-- What a public call answers: a value, or a refusal.
-- Definitions only.
use Rattle.std.specs.Prelude.{Result, Err}
use Rattle.refusals.specs.declared.Refusal.{Refusal}
use Rattle.refusals.specs.Causes.{Cause, cause_or}

abbrev pub Answer : Type 0 → Type 0
Answer S = Result S Refusal

-- a cause of refusal, or else the answer
abbrev pub or_answer : {S : Type 0} → Cause → Answer S → Answer S
or_answer c a = cause_or Err c a
