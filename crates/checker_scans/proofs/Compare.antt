-- A stored row beside a computed one, number by number. Assumes nothing.
use mathlib.Core.Path.{◌≡◌, refl, sym, ap, ◌∙◌}
use mathlib.Core.Bool.{Bool, true, false, ◌&&◌}
use mathlib.Core.List.{List, [], ◌∷◌}
use Prim.Native.Nat.{ℕ, zero, suc, ◌+◌, ◌*◌, ◌<◌}
use native.Mathlib.Nat.{not-suc-le-zero}
use native.Mathlib.Omega.{arith}
use lib.Dec.{eqb}
use lib.ListN.{length, get_or}
use lib.Ieee.{Float, binary64, nan, to_bits}
use borrow.Author.Tests.{eq-eqb, ne_eqb}
use Rattle.sheet_layout.specs.LittleEndian.{number, unpack, bits}
use Rattle.sheet.specs.Checker.{same_numbers}

module _ (b : List ℕ) where
  -- the number at place i has the bits of xs's at i
  abbrev pub Same : List Float → ℕ → ℕ → Type 0
  Same xs at i = number 8 b (at + 8 * i) ≡ to_bits binary64 (get_or xs i nan)

  next : (x : Float) (xs : List Float) (at i : ℕ) → Same (x ∷ xs) at (suc i) → Same xs (at + 8) i
  next x xs at i e = let p : at + 8 + 8 * i ≡ at + 8 * suc i = omega arith in ap (number 8 b) p ∙ e

  back : (x : Float) (xs : List Float) (at i : ℕ) → Same xs (at + 8) i → Same (x ∷ xs) at (suc i)
  back x xs at i e = let p : at + 8 * suc i ≡ at + 8 + 8 * i = omega arith in ap (number 8 b) p ∙ e

  first : (at : ℕ) → number 8 b (at + 8 * 0) ≡ number 8 b at
  first at = let p : at + 8 * 0 ≡ at = omega arith in ap (number 8 b) p

  pub same : (xs : List Float) (at : ℕ) → ((i : ℕ) → i < length xs → Same xs at i) → same_numbers (unpack 8 (length xs) b at) (bits xs) ≡ true
  unfolding unpack
  same [] at h = refl
  same (x ∷ xs) at h =
      rw (eq-eqb (number 8 b at) (to_bits binary64 x) (sym (first at) ∙ h 0 (omega arith))) (same xs (at + 8) (λ i l. next x xs at i (h (suc i) (omega arith))))

  and_false : (t : Bool) → (t && false) ≡ false
  and_false true = refl
  and_false false = refl

  pub other : (xs : List Float) (at i : ℕ) → i < length xs → (Same xs at i → ⊥) → same_numbers (unpack 8 (length xs) b at) (bits xs) ≡ false
  unfolding unpack
  other [] at i l n = absurd (not-suc-le-zero l)
  other (x ∷ xs) at zero l n = rw (ne_eqb (number 8 b at) (to_bits binary64 x) (λ e. n (first at ∙ e)))
  other (x ∷ xs) at (suc i) l n = rw (other xs (at + 8) i (omega arith) (λ e. n (back x xs at i e))) (and_false (eqb (number 8 b at) (to_bits binary64 x)))
