-- Laws of causes tried in order: none holds exactly where each holds not; what a loop over causes has found so far. Assumes nothing.
use mathlib.Core.Path.{◌≡◌, refl, ap, ◌∙◌, subst}
use mathlib.Core.Bool.{Bool, true, false}
use mathlib.Core.Logic.{⊎_elim}
use Prim.Native.Nat.{ℕ, zero, suc, ◌+◌, ◌<◌}
use native.Mathlib.Nat.{eq-or-lt_of_le, le_of_suc-le-suc}
use native.Mathlib.Omega.{arith}
use native.Mathlib.Numerals.{add-one}
use Rattle.refusals.specs.declared.Refusal.{Refusal}
use Rattle.std.specs.Prelude.{Ok, Err}
use Rattle.refusals.specs.Causes.{Cause, or_else, unless, first_of}

-- ---- two in a row

pub both : (c d : Cause) → or_else c d ≡ Ok tt → (c ≡ Ok tt) × (d ≡ Ok tt)
both (Ok _) d e = (refl, e)
both (Err r) d e = (cc, cc)

pub from_both : (c d : Cause) → c ≡ Ok tt → d ≡ Ok tt → or_else c d ≡ Ok tt
from_both c d p q = rw p q

-- ---- a test

pub holds : (t : Bool) (r : Refusal) → unless t r ≡ Ok tt → t ≡ true
holds true r e = refl
holds false r e = cc

pub passes : (t : Bool) (r : Refusal) → t ≡ true → unless t r ≡ Ok tt
passes t r e = rw e

pub refuses : (t : Bool) (r : Refusal) → t ≡ false → unless t r ≡ Err r
refuses t r e = rw e

-- ---- many in a row

nothing : {i : ℕ} → i < 0 → ⊥
nothing {i} l = omega arith

pub each : (n : ℕ) (c : ℕ → Cause) → first_of n c ≡ Ok tt → (i : ℕ) → i < n → c i ≡ Ok tt
unfolding first_of
each zero c e i h = absurd (nothing h)
each (suc n) c e i h =
    let w = both (first_of n c) (c n) e in
    ⊎_elim (λ p. ap c p ∙ w.1) (λ l. each n c w.0 i l) (eq-or-lt_of_le (le_of_suc-le-suc h))

pub from_each : (n : ℕ) (c : ℕ → Cause) → ((i : ℕ) → i < n → c i ≡ Ok tt) → first_of n c ≡ Ok tt
unfolding first_of
from_each zero c h = refl
from_each (suc n) c h = from_both (first_of n c) (c n) (from_each n c (λ i l. h i (omega arith))) (h n (omega arith))

-- one turn of a loop that tries them, and what it returns at the first that refuses
pub more : (n : ℕ) (c : ℕ → Cause) → first_of n c ≡ Ok tt → c n ≡ Ok tt → first_of (n + 1) c ≡ Ok tt
unfolding first_of
more n c p q = rw add-one (from_both (first_of n c) (c n) p q)

pub stop : (n i : ℕ) (c : ℕ → Cause) (r : Refusal) → i < n → first_of i c ≡ Ok tt → c i ≡ Err r → first_of n c ≡ Err r
unfolding first_of
stop zero i c r h p q = absurd (nothing h)
stop (suc n) i c r h p q =
    ⊎_elim (λ e. let u : first_of n c ≡ Ok tt = subst (λ (k : ℕ). first_of k c ≡ Ok tt) e p in
    let v : c n ≡ Err r = subst (λ (k : ℕ). c k ≡ Err r) e q in rw (u, v))
    (λ l. rw (stop n i c r l p q)) (eq-or-lt_of_le (le_of_suc-le-suc h))
