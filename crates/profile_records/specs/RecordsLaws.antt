-- What the list of field records holds after the call. Assumes nothing. States:
-- `records-length`, `filled_is`: the records of k stations that all have values are 13 k numbers, and k are filled where station k is refused or there are no more;
-- `filled-all`: after no cause the records of all n stations are filled;
-- `filled-refused`: after 11 with the station i, where each station is refused with its own number, those of the stations before i;
-- `filled-value`: a station whose record is filled is not refused;
-- `entry-written`: number q of the record of station j, which is filled, is number q of its field;
-- `entry_kept`: each entry past the filled records is as it was.
use Rattle.std.specs.Prelude.{true, false, List, ◌++◌, ◌≡◌, Float}
use Rattle.std.proofs.Math.Logic.{⊎_elim}
use Rattle.std.proofs.Math.Path.{refl, ap}
use Rattle.std.proofs.Common.{sym, ◌∙◌}
use Prim.Native.Nat.{ℕ, zero, suc, ◌+◌, ◌-◌, ◌*◌, ◌≤◌, ◌<◌}
use native.Mathlib.Omega.{arith}
use Rattle.std.specs.Float.Ieee.{nan}
use Rattle.std.proofs.Math.ListN.{drop, get_or, length, length-append, get_or-append}
use Rattle.std.proofs.Math.Seq.{get_or-append-add, get_or-drop}
use Rattle.lists.proofs.Firsts.{first-is, first_unique}
use Rattle.lists.proofs.Numbers.{below?}
use Rattle.lists.specs.First.{IsFirst}
use Rattle.refusals.proofs.Causes.{both, each, from_each, stop}
use Rattle.std.specs.Prelude.{Ok, Err}
use Rattle.refusals.specs.Answer.{Answer}
use Rattle.refusals.specs.Causes.{first_of}
use Rattle.refusals.specs.declared.Refusal.{Refusal}
use Rattle.refusals.specs.declared.Refusal.TheVariants.{TooManyEdges}
use Rattle.newtonian.specs.Vectors.{field_numbers, field_size}
use Rattle.newtonian.specs.declared.Newtonian.{Newtonian}
use Rattle.profile_records.specs.Records.{cause_of, is_refused, numbers_of, first_cause, filled, records, fields_after}

-- ---- one answer

numbers-length : (b : Answer Newtonian) → cause_of b ≡ Ok tt → length (numbers_of b) ≡ field_size
unfolding field_numbers
numbers-length (Ok x) e = refl
numbers-length (Err r) e = absurd (let z : ◌≡◌ {A = ℕ} 0 1 = cc in omega arith)

has_value : (b : Answer Newtonian) → cause_of b ≡ Ok tt → is_refused b ≡ false
has_value (Ok x) e = refl
has_value (Err r) e = absurd (let z : ◌≡◌ {A = ℕ} 0 1 = cc in omega arith)

no_cause : (b : Answer Newtonian) → is_refused b ≡ false → cause_of b ≡ Ok tt
no_cause (Ok x) e = refl
no_cause (Err r) e = absurd (let z : ◌≡◌ {A = ℕ} 0 1 = cc in omega arith)

-- the refusal of an answer that is refused
record Refusing (b : Answer Newtonian) : Type 0 where
  pub by : Refusal
  pub given : b ≡ Err by

refusing : (b : Answer Newtonian) → is_refused b ≡ true → Refusing b
refusing (Ok x) e = absurd (let z : ◌≡◌ {A = ℕ} 0 1 = cc in omega arith)
refusing (Err r) e = record { by = r; given = refl }

module _ (a : ℕ → Answer Newtonian) where
  -- ---- how many records are filled

  pub records-length : (k : ℕ) → first_cause a k ≡ Ok tt → length (records a k) ≡ field_size * k
  unfolding first_of records
  records-length zero e = refl
  records-length (suc k) e =
      let w = both (first_cause a k) (cause_of (a k)) e in
      length-append (records a k) (numbers_of (a k)) ∙ omega (arith, records-length k w.0, numbers-length (a k) w.1)

  pub filled_is : (k n : ℕ) → k ≤ n → first_cause a k ≡ Ok tt → (k < n → is_refused (a k) ≡ true) → filled a n ≡ k
  unfolding filled
  filled_is k n l e h = first_unique (λ i. is_refused (a i)) n k (record { upto = l; before = λ i m. has_value (a i) (each k (λ j. cause_of (a j)) e i m); here = h })

  pub filled-all : (n : ℕ) → first_cause a n ≡ Ok tt → filled a n ≡ n
  filled-all n e = filled_is n n (omega arith) e (λ h. absurd (omega arith))

  filled-first : (n : ℕ) → IsFirst (λ i. is_refused (a i)) n (filled a n)
  unfolding filled
  filled-first n = first-is (λ i. is_refused (a i)) n

  pub filled-value : (n j : ℕ) → j < filled a n → is_refused (a j) ≡ false
  filled-value n j h = (filled-first n).before j h

  before-none : (n : ℕ) → first_cause a (filled a n) ≡ Ok tt
  before-none n = from_each (filled a n) (λ i. cause_of (a i)) (λ i h. no_cause (a i) (filled-value n i h))

  pub filled-refused : (n i : ℕ) → ((j : ℕ) → j < n → (r : Refusal) → a j ≡ Err r → r ≡ TooManyEdges j) → first_cause a n ≡ Err (TooManyEdges i)
      → (filled a n ≡ i) × (i < n)
  filled-refused n i own e =
      let k = filled a n in
      ⊎_elim
      (λ l.
      let z = refusing (a k) ((filled-first n).here l) in
      let q = own k l z.by z.given in
      let s = stop n k (λ j. cause_of (a j)) z.by l (before-none n) (ap cause_of z.given) in
      let m : k ≡ i = cc in
      (m, omega arith))
      (λ l.
      let m : k ≡ n = omega (arith, (filled-first n).upto) in
      let s : first_cause a n ≡ Ok tt = rw m at (before-none n) in
      absurd (let z : ◌≡◌ {A = ℕ} 0 1 = cc in omega arith))
      (below? k n)

  -- ---- each entry

  records-at : (k : ℕ) → first_cause a k ≡ Ok tt → (j q : ℕ) → j < k → q < field_size → get_or (records a k) (field_size * j + q) nan ≡ get_or (numbers_of (a j)) q nan
  unfolding first_of records
  records-at zero e j q h l = absurd (omega arith)
  records-at (suc k) e j q h l =
      let w = both (first_cause a k) (cause_of (a k)) e in
      let n = records-length k w.0 in
      ⊎_elim
      (λ m. get_or-append (records a k) (numbers_of (a k)) nan (field_size * j + q) (omega (arith, n)) ∙ records-at k w.0 j q m l)
      (λ m.
      let z : j ≡ k = omega arith in
      let i : field_size * j + q ≡ length (records a k) + q = omega (arith, n) in
      ap (λ (x : ℕ). get_or (records a k ++ numbers_of (a k)) x nan) i ∙ get_or-append-add (records a k) (numbers_of (a k)) q nan ∙ ap (λ (x : ℕ). get_or (numbers_of (a x)) q nan) (sym z))
      (below? j k)

  module _ (n : ℕ) (o : List Float) where
    pub entry-written : (j q : ℕ) → j < filled a n → q < field_size → get_or (fields_after a n o) (field_size * j + q) nan ≡ get_or (numbers_of (a j)) q nan
    unfolding fields_after
    entry-written j q h l =
        let k = filled a n in
        let e = before-none n in
        get_or-append (records a k) (drop (field_size * k) o) nan (field_size * j + q) (omega (arith, records-length k e)) ∙ records-at k e j q h l

    pub entry_kept : (i : ℕ) → field_size * filled a n ≤ i → get_or (fields_after a n o) i nan ≡ get_or o i nan
    unfolding fields_after
    entry_kept i h =
        let k = filled a n in
        let r = i - field_size * k in
        let e : i ≡ length (records a k) + r = omega (arith, records-length k (before-none n)) in
        let z : field_size * k + r ≡ i = omega arith in
        ap (λ (x : ℕ). get_or (records a k ++ drop (field_size * k) o) x nan) e ∙ get_or-append-add (records a k) (drop (field_size * k) o) r nan
        ∙ get_or-drop (field_size * k) o r nan ∙ ap (λ (x : ℕ). get_or o x nan) z
