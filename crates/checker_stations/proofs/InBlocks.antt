-- Causes tried by blocks. States: `block_passed`: none so far, and none in the next block; `block_refused`: the first cause of the block is the first of all. Assumes nothing.
use mathlib.Core.Path.{◌≡◌, refl, ap, ◌∙◌}
use Prim.Native.Nat.{ℕ, zero, suc, ◌+◌, ◌-◌, ◌≤◌}
use native.Mathlib.Omega.{arith}
use Rattle.refusals.specs.Causes.{or_else, first_of}
use Rattle.refusals.specs.declared.Refusal.{Refusal}
use Rattle.std.specs.Prelude.{Ok, Err}
use Rattle.refusals.specs.Causes.{Cause}

or-none : (x : Cause) → x ≡ or_else x (Ok tt)
or-none (Ok _) = refl
or-none (Err r) = refl

or_assoc : (x y z : Cause) → or_else (or_else x y) z ≡ or_else x (or_else y z)
or_assoc (Ok _) y z = refl
or_assoc (Err r) y z = refl

first-add : (k n : ℕ) (c : ℕ → Cause) → first_of (k + n) c ≡ or_else (first_of k c) (first_of n (λ j. c (k + j)))
unfolding first_of
first-add k zero c = let e : k + 0 ≡ k = omega arith in ap (λ (m : ℕ). first_of m c) e ∙ or-none (first_of k c)
first-add k (suc n) c =
    let e : k + suc n ≡ suc (k + n) = omega arith in
    ap (λ (m : ℕ). first_of m c) e ∙ ap (λ (x : Cause). or_else x (c (k + n))) (first-add k n c) ∙ or_assoc (first_of k c) (first_of n (λ j. c (k + j))) (c (k + n))

module _ (k n : ℕ) (c : ℕ → Cause) (none : first_of k c ≡ Ok tt) where
  block : first_of (k + n) c ≡ first_of n (λ j. c (k + j))
  block = first-add k n c ∙ ap (λ (x : Cause). or_else x (first_of n (λ j. c (k + j)))) none

  pub block_passed : first_of n (λ j. c (k + j)) ≡ Ok tt → first_of (k + n) c ≡ Ok tt
  block_passed e = block ∙ e

  pub block_refused : (m : ℕ) (r : Refusal) → k + n ≤ m → first_of n (λ j. c (k + j)) ≡ Err r → first_of m c ≡ Err r
  block_refused m r l e =
      let q : m ≡ k + n + (m - (k + n)) = omega arith in
      ap (λ (i : ℕ). first_of i c) q ∙ first-add (k + n) (m - (k + n)) c ∙ ap (λ (x : Cause). or_else x (first_of (m - (k + n)) (λ j. c (k + n + j)))) (block ∙ e)
