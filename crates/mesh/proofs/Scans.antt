-- A loop that tries a test at 0, 1, .. and stops at the first that fails (`scan_more`: a turn, `scan_stop`, `scan_end`), and a fold that notes whether all entries of a
-- list pass (`noted_push`: one more entry, `noted_each`). Assumes nothing.
use mathlib.Core.Path.{◌≡◌, refl, sym, ap, ap₂, subst, ◌∙◌}
use mathlib.Core.List.{List, [], ◌∷◌, ◌++◌}
use lib.ListN.{length, get_or, get_or-append, length-append}
use lib.Seq.{get_or-append_seam}
use mathlib.Core.Bool.{Bool, true, false, ◌&&◌}
use Prim.Native.Nat.{ℕ, zero, suc, ◌+◌, ◌≤◌, ◌<◌}
use native.Mathlib.Numerals.{add-one}
use native.Mathlib.Omega.{arith}
use Rattle.refusals.specs.declared.Refusal.{Refusal}
use Rattle.std.specs.Prelude.{Ok, Err}
use Rattle.refusals.specs.Causes.{Cause}
use Rattle.refusals.specs.Causes.{or_else, unless, first_of}
use Rattle.refusals.proofs.Causes.{more, stop, holds, passes, refuses, each}

module _ (n : ℕ) (t : ℕ → Bool) (r : ℕ → Refusal) where
  pub scan_start : first_of 0 (λ i. unless (t i) (r i)) ≡ Ok tt
  unfolding first_of
  scan_start = refl

  pub scan_more : (i : ℕ) → first_of i (λ j. unless (t j) (r j)) ≡ Ok tt → t i ≡ true → first_of (i + 1) (λ j. unless (t j) (r j)) ≡ Ok tt
  scan_more i h e = more i (λ j. unless (t j) (r j)) h (passes (t i) (r i) e)

  pub scan_stop : (i : ℕ) → i < n → first_of i (λ j. unless (t j) (r j)) ≡ Ok tt → t i ≡ false → Err (r i) ≡ first_of n (λ j. unless (t j) (r j))
  scan_stop i l h e = sym (stop n i (λ j. unless (t j) (r j)) (r i) l h (refuses (t i) (r i) e))

  pub scan_end : (i : ℕ) → i ≤ n → n ≤ i → first_of i (λ j. unless (t j) (r j)) ≡ Ok tt → Ok tt ≡ first_of n (λ j. unless (t j) (r j))
  scan_end i a b h = sym (subst (λ (m : ℕ). first_of m (λ j. unless (t j) (r j)) ≡ Ok tt) (let e : i ≡ n = omega arith in e) h)

-- with one refusal a says it both ways
unless_both : (a b : Bool) (r : Refusal) → unless (a && b) r ≡ or_else (unless a r) (unless b r)
unless_both true b r = refl
unless_both false b r = refl

noted_more : (t : ℕ → Bool) (r : Refusal) (i : ℕ) (a : Bool) → unless a r ≡ first_of i (λ j. unless (t j) r) → unless (a && t i) r ≡ first_of (i + 1) (λ j. unless (t j) r)
unfolding first_of
noted_more t r i a h = rw (unless_both a (t i) r, h, add-one)

first_same : (n : ℕ) (c d : ℕ → Cause) → ((i : ℕ) → i < n → c i ≡ d i) → first_of n c ≡ first_of n d
unfolding first_of
first_same zero c d h = refl
first_same (suc n) c d h = ap₂ or_else (first_same n c d (λ i l. h i (omega arith))) (h n (omega arith))

module _ {A : Type 0} (p : A → Bool) (d : A) (r : Refusal) where
  -- a says whether all entries of l pass
  abbrev pub Noted : List A → Bool → Type 0
  Noted l a = unless a r ≡ first_of (length l) (λ i. unless (p (get_or l i d)) r)

  pub noted_none : Noted [] true
  unfolding first_of
  noted_none = refl

  pub noted_push : (l : List A) (x : A) (a b : Bool) → Noted l a → b ≡ (a && p x) → Noted (l ++ (x ∷ [])) b
  noted_push l x a b h e =
      let m = l ++ (x ∷ []) in
      let before = first_same (length l) (λ i. unless (p (get_or l i d)) r) (λ i. unless (p (get_or m i d)) r) (λ i k. ap (λ (y : A). unless (p y) r) (sym (get_or-append l (x ∷ []) d i k))) in
      ap (λ (z : Bool). unless z r) (e ∙ ap (λ (y : A). a && p y) (sym (get_or-append_seam l x [] d)))
      ∙ noted_more (λ i. p (get_or m i d)) r (length l) a (h ∙ before)
      ∙ ap (λ (n : ℕ). first_of n (λ i. unless (p (get_or m i d)) r)) (sym (length-append l (x ∷ [])))

  pub noted_each : (l : List A) (a : Bool) → Noted l a → a ≡ true → (i : ℕ) → i < length l → p (get_or l i d) ≡ true
  noted_each l a h e i n = holds _ r (each (length l) (λ j. unless (p (get_or l j d)) r) (sym h ∙ passes a r e) i n)
