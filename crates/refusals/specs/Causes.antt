-- Causes of refusal tried in order: the first that holds decides. Definitions only.
use Rattle.std.specs.Prelude.{Bool, true, false, ℕ, zero, suc, Result, Ok, Err, ⊤}
use Rattle.refusals.specs.declared.Refusal.{Refusal}

-- what a test for refusals finds: `Ok` where no cause holds, or the first cause that does
abbrev pub Cause : Type 0
Cause = Result ⊤ Refusal

-- the first cause, or else the second
abbrev pub or_else : Cause → Cause → Cause
or_else (Ok _) d = d
or_else (Err r) d = Err r

-- refused, unless the test holds
abbrev pub unless : Bool → Refusal → Cause
unless true r = Ok tt
unless false r = Err r

-- an answer's own case of the refusal, where there is a cause; or else the answer
abbrev pub cause_or : {A : Type 0} → (Refusal → A) → Cause → A → A
cause_or refused (Ok _) a = a
cause_or refused (Err r) a = refused r

-- the first cause among c 0, c 1, .., c (n - 1)
unfoldable pub first_of : ℕ → (ℕ → Cause) → Cause
first_of zero c = Ok tt
first_of (suc n) c = or_else (first_of n c) (c n)
