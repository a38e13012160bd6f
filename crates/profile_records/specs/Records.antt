-- The list of field records that a call over many stations fills: the thirteen numbers of station after station, up to the first station that is refused; its own record and all later
-- ones stay as they were. a i is the answer at station i, n the number of stations, o the list before. Definitions only.
use Rattle.std.specs.Prelude.{◌≡◌, Bool, true, false, List, [], ◌++◌, ℕ, zero, suc, ◌*◌, ◌≤◌, Float, drop}
use Rattle.lists.specs.First.{first}
use Rattle.std.specs.Prelude.{Ok, Err}
use Rattle.refusals.specs.Answer.{Answer}
use Rattle.refusals.specs.Causes.{Cause}
use Rattle.refusals.specs.Causes.{first_of}
use Rattle.newtonian.specs.Vectors.{field_numbers, field_size}
use Rattle.newtonian.specs.declared.Newtonian.{Newtonian}

-- what an answer is: its cause of refusal, whether it has one, and its numbers
abbrev pub cause_of : Answer Newtonian → Cause
cause_of (Ok x) = Ok tt
cause_of (Err r) = Err r

abbrev pub is_refused : Answer Newtonian → Bool
is_refused (Ok x) = false
is_refused (Err r) = true

abbrev pub numbers_of : Answer Newtonian → List Float
numbers_of (Ok x) = field_numbers x
numbers_of (Err r) = []

-- the cause of the first station that is refused
abbrev pub first_cause : (ℕ → Answer Newtonian) → ℕ → Cause
first_cause a n = first_of n (λ i. cause_of (a i))

-- how many records are filled: those of the stations before the first that is refused, or of all
unfoldable pub filled : (ℕ → Answer Newtonian) → ℕ → ℕ
filled a n = first (λ i. is_refused (a i)) 0 n

-- the records of the first n stations, one after the other
unfoldable pub records : (ℕ → Answer Newtonian) → ℕ → List Float
records a zero = []
records a (suc n) = records a n ++ numbers_of (a n)

-- the list o after the call
unfoldable pub fields_after : (ℕ → Answer Newtonian) → ℕ → List Float → List Float
fields_after a n o = records a (filled a n) ++ drop (field_size * filled a n) o

-- the call over n stations is done: it gives the cause c, and the list o has become l
pub record Done (a : ℕ → Answer Newtonian) (n : ℕ) (o : List Float) (c : Cause) (l : List Float) : Type 0 where
  pub cause : c ≡ first_cause a n
  pub fields : l ≡ fields_after a n o

-- ---- between two blocks of stations

-- the first k stations have values, and their records stand in l, which was o before
pub record Written (a : ℕ → Answer Newtonian) (k : ℕ) (o l : List Float) : Type 0 where
  pub none : first_cause a k ≡ Ok tt
  pub fields : l ≡ records a k ++ drop (field_size * k) o

-- what follows once the cause c of the stations up to k is known: their records are written, or a call over any n stations, k or more, is done
pub record Stored (a : ℕ → Answer Newtonian) (k : ℕ) (o : List Float) (c : Cause) (l : List Float) : Type 0 where
  pub on : c ≡ Ok tt → Written a k o l
  pub over : (n : ℕ) → k ≤ n → (c ≡ Ok tt → ⊥) → Done a n o c l
