-- The first bad line decides. States:
-- `line_wrong`, `line_digits`, `line_free`: a line has the cause 21 exactly where it is not right, 22 exactly where it is right and a number or an index has more than 15 digits, and
-- else none;
-- `first_line`: the cause 21 or 22 of a text is that of its first line that has one;
-- `refused_line`: `read_obj` is refused by 21 or 22 exactly so, whatever the lent lists are: its other causes are 2, 12, 3 and 4. `text_free`: a text has neither exactly where no line
-- has. Assumes nothing.
use Rattle.std.specs.Prelude.{◌≡◌, refl, Bool, true, false, ◌&&◌, List, [], ◌∷◌, ◌↔◌, ◌⊎◌, ℕ, zero, suc, ◌<◌, leb, Float, length, get_or, Ok, Err}
use Rattle.std.proofs.Common.{ap, ◌∙◌, ⊎_elim, arith}
use Rattle.refusals.specs.declared.Refusal.{Refusal}
use Rattle.refusals.specs.declared.Refusal.TheVariants.{WrongLine, TooManyDigits, TooShort}
use Rattle.refusals.specs.Causes.{Cause, or_else, unless}
use Rattle.refusals.specs.Numbers.{number_of}
use Rattle.refusals.proofs.Causes.{both, from_both, holds}
use Rattle.mesh.specs.Check.{too_many, out_of_limits, no_such_vertex}
use Rattle.mesh.specs.Surface.{vertex_count}
use Rattle.mesh.proofs.CauseNumbers.{Only, NumberWithin, only-unless, only_else, decided, only-many, only_limits, only-vertex}
use Rattle.obj.specs.Text.{lines, fields}
use Rattle.obj.specs.Reader.{is_right, is_short, fields_cause, line_cause, first_cause, text_cause, vertices_of, faces_of, lists_too_short, read_cause, reader_cause}
use Rattle.obj_laws.specs.FirstLine.{FirstOfLines, FirstBad}

-- ---- one line

abbrev two : Bool → Bool → Cause
two a b = or_else (unless a WrongLine) (unless b TooManyDigits)

two_wrong : (a b : Bool) → two a b ≡ Err WrongLine → a ≡ false
two_wrong true true e = cc
two_wrong true false e = cc
two_wrong false b e = refl

two_digits : (a b : Bool) → two a b ≡ Err TooManyDigits → (a ≡ true) × (b ≡ false)
two_digits true true e = (refl, cc)
two_digits true false e = (refl, refl)
two_digits false b e = (cc, cc)

pub line_wrong : (l : List ℕ) → (line_cause l ≡ Err WrongLine) ↔ (is_right (fields l) ≡ false)
unfolding fields_cause
line_wrong l = (two_wrong (is_right (fields l)) (is_short (fields l)), λ e. rw e)

pub line_digits : (l : List ℕ) → (line_cause l ≡ Err TooManyDigits) ↔ ((is_right (fields l) ≡ true) × (is_short (fields l) ≡ false))
unfolding fields_cause
line_digits l = (two_digits (is_right (fields l)) (is_short (fields l)), λ e. rw (e.0, e.1))

pub line_free : (l : List ℕ) → (line_cause l ≡ Ok tt) ↔ ((is_right (fields l) ≡ true) × (is_short (fields l) ≡ true))
unfolding fields_cause
line_free l =
    let right = is_right (fields l) in
    let short = is_short (fields l) in
    (λ e. let w = both (unless right WrongLine) (unless short TooManyDigits) e in (holds right WrongLine w.0, holds short TooManyDigits w.1), λ e. rw (e.0, e.1))

-- ---- all lines

first_is : (ls : List (List ℕ)) (r : Refusal) → first_cause ls ≡ Err r → FirstOfLines ls r
unfolding first_cause
first_is [] r e = absurd cc
first_is (l ∷ ls) r e = go (line_cause l) refl e (first_is ls r)
  where
    go : (c : Cause) → line_cause l ≡ c → or_else c (first_cause ls) ≡ Err r → (first_cause ls ≡ Err r → FirstOfLines ls r) → FirstOfLines (l ∷ ls) r
    go (Ok _) q p rest =
        let g = rest p in
        record { i = suc g.i; line = omega (arith, g.line); itself = g.itself; before = before g }
      where
        before : (g : FirstOfLines ls r) (j : ℕ) → j < suc g.i → line_cause (get_or (l ∷ ls) j []) ≡ Ok tt
        before g zero h = q
        before g (suc j) h = g.before j (omega arith)
    go (Err x) q p rest = record { i = 0; line = omega arith; itself = q ∙ p; before = λ j h. absurd (omega arith) }

is_first : (ls : List (List ℕ)) (r : Refusal) (i : ℕ) → i < length ls → line_cause (get_or ls i []) ≡ Err r → ((j : ℕ) → j < i → line_cause (get_or ls j []) ≡ Ok tt)
    → first_cause ls ≡ Err r
unfolding first_cause
is_first [] r i h e b = absurd (omega arith)
is_first (l ∷ ls) r zero h e b = rw e
is_first (l ∷ ls) r (suc i) h e b = rw (b 0 (omega arith)) (is_first ls r i (omega arith) e (λ j k. b (suc j) (omega arith)))

pub first_line : (t : List ℕ) (r : Refusal) → (text_cause t ≡ Err r) ↔ FirstBad t r
first_line t r = (first_is (lines t) r, λ g. is_first (lines t) r g.i g.line g.itself g.before)

none_free : (ls : List (List ℕ)) → first_cause ls ≡ Ok tt → (i : ℕ) → i < length ls → line_cause (get_or ls i []) ≡ Ok tt
unfolding first_cause
none_free [] e i h = absurd (omega arith)
none_free (l ∷ ls) e zero h = (both (line_cause l) (first_cause ls) e).0
none_free (l ∷ ls) e (suc i) h = none_free ls (both (line_cause l) (first_cause ls) e).1 i (omega arith)

free_none : (ls : List (List ℕ)) → ((i : ℕ) → i < length ls → line_cause (get_or ls i []) ≡ Ok tt) → first_cause ls ≡ Ok tt
unfolding first_cause
free_none [] h = refl
free_none (l ∷ ls) h = from_both (line_cause l) (first_cause ls) (h 0 (omega arith)) (free_none ls (λ i k. h (suc i) (omega arith)))

pub text_free : (t : List ℕ) → (text_cause t ≡ Ok tt) ↔ ((i : ℕ) → i < length (lines t) → line_cause (get_or (lines t) i []) ≡ Ok tt)
text_free t = (none_free (lines t), free_none (lines t))

-- ---- the call

-- 2, 12, 3 and 4
only_read : (v : List Float) (f : List ℕ) (n m : ℕ) → Only (NumberWithin 2 12) (read_cause v f n m)
unfolding read_cause lists_too_short
only_read v f n m =
    let P = NumberWithin 2 12 in
    let lists = unless (leb (length v) n && leb (length f) m) TooShort in
    let indices = no_such_vertex (vertex_count v) f in
    only_else P (too_many v f) (or_else lists (or_else (out_of_limits v) indices)) (λ r e. let q = only-many v f r e in omega (arith, q.0, q.1))
    (only_else P lists (or_else (out_of_limits v) indices) (only-unless P (leb (length v) n && leb (length f) m) TooShort (omega arith))
    (only_else P (out_of_limits v) indices (λ r e. let q = only_limits v f r e in omega (arith, q.0, q.1)) (λ r e. let q = only-vertex v f r e in omega (arith, q.0, q.1))))

pub refused_line : (t : List ℕ) (n m : ℕ) (r : Refusal) → (r ≡ WrongLine) ⊎ (r ≡ TooManyDigits) → (reader_cause t n m ≡ Err r) ↔ FirstBad t r
unfolding reader_cause
refused_line t n m r w =
    let after = read_cause (vertices_of t) (faces_of t) n m in
    let above : NumberWithin 2 12 r → ⊥ = λ q. ⊎_elim (λ e. let k = ap number_of e in omega (arith, q.1)) (λ e. let k = ap number_of e in omega (arith, q.1)) w in
    let only = only_read (vertices_of t) (faces_of t) n m in
    (λ e. (first_line t r).0 (decided (NumberWithin 2 12) (text_cause t) after r only above e), λ g. ap (λ (c : Cause). or_else c after) ((first_line t r).1 g))
