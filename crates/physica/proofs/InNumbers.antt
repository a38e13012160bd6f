-- What the calls on sheets say by the number that they return. Assumes nothing. States:
-- `writes_lent`: what `write_sheet` promises, of the number returned and the size written;
-- `checks_lent`: what `check_sheet` promises, of the number returned and the kind and S found.
use mathlib.Core.Path.{◌≡◌, refl, sym, ap}
use mathlib.Core.List.{List}
use Prim.Native.Nat.{ℕ, ◌≤◌}
use native.Mathlib.Omega.{arith}
use lib.ListN.{get_or, take}
use Rattle.refusals.specs.declared.Refusal.{Refusal}
use Rattle.refusals.specs.declared.Refusal.TheVariants.{Malformed, TooMany, OutOfLimits, NoSuchVertex, Flipped, Open, Degenerate, Inverted, TooThin, TooDeep, TooManyEdges, TooShort, NotFinite, OutsideDomain, TooManyRounds, WrongLength, WrongOrder, WrongMate, WrongVolume, WrongRow, WrongLine, TooManyDigits}
use Rattle.refusals.specs.Numbers.{number_of}
use Rattle.sheet.specs.Input.{SheetInput}
use Rattle.sheet.specs.Bytes.{sheet_size}
use Rattle.sheet.specs.Checker.{verdict_answer, check_sheet}
use Rattle.sheet.specs.Promises.{NoCause, Right, Kept}
use Rattle.std.specs.Prelude.{Ok, Err}
use Rattle.refusals.specs.Answer.{Answer}
use Rattle.sheet.specs.declared.Accepted.{Accepted}
use Rattle.writer.specs.Written.{Writes}
use Rattle.physica_lent.specs.Exported.{itself, accepted_numbers, GivesValues}
use Rattle.physica_lent.specs.Sheets.{WritesLent, ChecksLent}

-- no refusal has the number 0
number-least : (r : Refusal) → 1 ≤ number_of r
number-least Malformed = omega arith
number-least TooMany = omega arith
number-least OutOfLimits = omega arith
number-least (NoSuchVertex face) = omega arith
number-least (Flipped from to) = omega arith
number-least (Open from to) = omega arith
number-least (Degenerate face) = omega arith
number-least Inverted = omega arith
number-least TooThin = omega arith
number-least (TooDeep station) = omega arith
number-least (TooManyEdges station) = omega arith
number-least TooShort = omega arith
number-least (NotFinite station) = omega arith
number-least OutsideDomain = omega arith
number-least TooManyRounds = omega arith
number-least WrongLength = omega arith
number-least WrongOrder = omega arith
number-least WrongMate = omega arith
number-least WrongVolume = omega arith
number-least (WrongRow station) = omega arith
number-least WrongLine = omega arith
number-least TooManyDigits = omega arith

-- ---- the writer

-- 0 means written, and the length is the size
zero-written : (a : Answer ℕ) {r n m : ℕ} {vs : List ℕ} → GivesValues itself a r n m vs → r ≡ 0 → a ≡ Ok m
zero-written (Ok k) g e = ap {B = Answer ℕ} Ok (sym g.out)
zero-written (Err q) g e = absurd (omega (arith, number-least q, g.number))

written-zero : (a : Answer ℕ) {r n m : ℕ} {vs : List ℕ} (k : ℕ) → GivesValues itself a r n m vs → a ≡ Ok k → r ≡ 0
written-zero (Ok j) k g e = g.number
written-zero (Err q) k g e = absurd (let z : ◌≡◌ {A = ℕ} 0 1 = cc in omega arith)

same_size : (a : Answer ℕ) (j k : ℕ) → a ≡ Ok j → a ≡ Ok k → j ≡ k
same_size a j k p q = cc

pub writes_lent : {s : SheetInput} {w o p q : List ℕ} {a : Answer ℕ} {r n m : ℕ} {vs : List ℕ}
    → Writes s w o a p q → GivesValues itself a r n m vs → WritesLent s w o p q r n m vs
writes_lent {s} {q = q} {a = a} {m = m} h g = record {
  answer = rw (← h.answer) g;
  work = h.work;
  out = h.out;
  only = λ e. h.only m (zero-written a g e);
  always = λ free. written-zero a (sheet_size s) g (h.always free);
  kept = λ e.
      let b = zero-written a g e in
      rw (same_size a m (sheet_size s) b (h.always (h.only m b))) (h.kept m b);
}

-- ---- the checker

-- the numbers of `verdict_answer` are those that are given
of_verdict : (a : Answer Accepted) {r : ℕ} {n m vs : List ℕ} → GivesValues accepted_numbers a r n m vs → GivesValues itself (verdict_answer a) r n m vs
of_verdict (Ok a) g = record { number = g.number; out = g.out; values = g.values }
of_verdict (Err q) g = record { number = g.number; out = g.out; values = g.values }

zero-accepted : (a : Answer Accepted) {r : ℕ} {n m vs : List ℕ} → GivesValues accepted_numbers a r n m vs → r ≡ 0
    → a ≡ Ok (record { kind = get_or m 0 0; stations = get_or m 1 0 })
zero-accepted (Ok a) g e = rw g.out
zero-accepted (Err q) g e = absurd (omega (arith, number-least q, g.number))

pub checks_lent : (b : List ℕ) (a : Answer Accepted) {r : ℕ} {n m vs : List ℕ}
    → verdict_answer a ≡ check_sheet b → ((k s : ℕ) → a ≡ Ok (record { kind = k; stations = s }) → Right b k s)
    → GivesValues accepted_numbers a r n m vs → ChecksLent b r n m vs
checks_lent b a {m = m} h right g = record {
  answer = rw (← h) (of_verdict a g);
  right = λ e. right (get_or m 0 0) (get_or m 1 0) (zero-accepted a g e);
}
