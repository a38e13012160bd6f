-- Runs of stores into a list. Assumes nothing.
use mathlib.Core.Path.{◌≡◌, sym, ap, ◌∙◌}
use mathlib.Core.List.{List, [], ◌∷◌, ◌++◌, append-nil}
use Prim.Native.Nat.{ℕ, suc, ◌+◌, ◌-◌, ◌≤◌}
use native.Mathlib.Nat.{zero-add, add-zero, add-suc, suc-add}
use native.Mathlib.Omega.{arith}
use lib.ListN.{length, set, drop}
use lib.Seq.{sets, sets-eq, length-sets, drop-length, drop-append-add, drop-drop}

module _ {A : Type 0} where
  sets_append : (l : List A) (i : ℕ) (xs ys : List A) → sets (sets l i xs) (i + length xs) ys ≡ sets l i (xs ++ ys)
  sets_append l i [] ys = rw add-zero
  sets_append l i (x ∷ xs) ys = rw (add-suc, ← suc-add) (sets_append (set l i x) (suc i) xs ys)

  -- a run, and a second one right after it, are one run
  pub sets_then : (l : List A) (i k : ℕ) (xs ys : List A) → k ≡ i + length xs → sets (sets l i xs) k ys ≡ sets l i (xs ++ ys)
  sets_then l i k xs ys e = rw e (sets_append l i xs ys)

  -- a run from the front leaves what is past it
  pub sets_front : (l vs : List A) → length vs ≤ length l → sets l 0 vs ≡ vs ++ drop (length vs) l
  sets_front l vs h = sets-eq vs l 0 (omega arith) ∙ rw zero-add

  -- a run over the whole list
  pub sets_all : (l vs : List A) → length vs ≡ length l → sets l 0 vs ≡ vs
  sets_all l vs e = sets_front l vs (omega arith) ∙ rw (e, drop-length) (append-nil vs)

  -- a run over one that is no longer leaves no trace of it
  pub sets_over : (l xs ys : List A) → length xs ≤ length ys → length ys ≤ length l → sets (sets l 0 xs) 0 ys ≡ sets l 0 ys
  sets_over l xs ys h k =
      let n : length (sets l 0 xs) ≡ length l = length-sets l 0 xs in
      let e : length ys ≡ length xs + (length ys - length xs) = omega arith in
      sets_front (sets l 0 xs) ys (omega arith)
      ∙ ap (λ (r : List A). ys ++ drop (length ys) r) (sets_front l xs (omega arith))
      ∙ ap (λ (r : List A). ys ++ r)
      (ap (λ (m : ℕ). drop m (xs ++ drop (length xs) l)) e ∙ drop-append-add xs (drop (length xs) l) (length ys - length xs)
      ∙ drop-drop (length ys - length xs) (length xs) l ∙ ap (λ (m : ℕ). drop m l) (sym e))
      ∙ sym (sets_front l ys k)
