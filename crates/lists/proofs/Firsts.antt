-- Laws of `first`. States: `first-is`: it gives the first number that passes; `first_unique`: there is one such number only. Assumes nothing.
use mathlib.Core.Path.{◌≡◌, refl, sym, ap, ◌∙◌}
use mathlib.Core.Bool.{Bool, true, false, cond}
use mathlib.Core.Logic.{◌⊎◌, inl, inr, ⊎_elim}
use Prim.Native.Nat.{ℕ, zero, suc, ◌+◌, ◌≤◌, ◌<◌, zero-le}
use native.Mathlib.Nat.{le_refl}
use native.Mathlib.Omega.{arith}
use Rattle.lists.specs.First.{first, IsFirst}
use Rattle.lists.proofs.Numbers.{same?, below?, true≢false}

-- what `first p i n` gives, from i on
record From (p : ℕ → Bool) (i n r : ℕ) : Type 0 where
  pub low : i ≤ r
  pub upto : r ≤ i + n
  pub before : (k : ℕ) → i ≤ k → k < r → p k ≡ false
  pub here : r < i + n → p r ≡ true

from_next : (p : ℕ → Bool) (i n r : ℕ) → p i ≡ false → From p (suc i) n r → From p i (suc n) r
from_next p i n r e h = record {
  low = omega arith;
  upto = omega arith;
  before = λ k a b. ⊎_elim (λ z. ap p (sym z) ∙ e) (λ z. h.before k (omega arith) b) (same? i k);
  here = λ l. h.here (omega arith);
}

from_first : (p : ℕ → Bool) (i n : ℕ) → From p i n (first p i n)
from_first p i zero = record { low = le_refl i; upto = omega arith; before = λ k a b. absurd (omega arith); here = λ l. absurd (omega arith) }
from_first p i (suc n) = go (p i) refl (from_first p (suc i) n)
  where
    go : (b : Bool) → p i ≡ b → From p (suc i) n (first p (suc i) n) → From p i (suc n) (cond b i (first p (suc i) n))
    go true e h = record { low = le_refl i; upto = omega arith; before = λ k a b. absurd (omega arith); here = λ l. e }
    go false e h = from_next p i n (first p (suc i) n) e h

pub first-is : (p : ℕ → Bool) (n : ℕ) → IsFirst p n (first p 0 n)
first-is p n =
    let h = from_first p 0 n in
    record { upto = omega (arith, h.upto); before = λ k l. h.before k zero-le l; here = λ l. h.here (omega arith) }

pub first_unique : (p : ℕ → Bool) (n r : ℕ) → IsFirst p n r → first p 0 n ≡ r
first_unique p n r h = go (below? (first p 0 n) r) (below? r (first p 0 n))
  where
    s : IsFirst p n (first p 0 n)
    s = first-is p n

    go : (first p 0 n < r) ⊎ (r ≤ first p 0 n) → (r < first p 0 n) ⊎ (first p 0 n ≤ r) → first p 0 n ≡ r
    go (inl l) b = absurd (true≢false (sym (s.here (omega (arith, h.upto))) ∙ h.before (first p 0 n) l))
    go (inr a) (inl l) = absurd (true≢false (sym (h.here (omega (arith, s.upto))) ∙ s.before r l))
    go (inr a) (inr b) = omega arith
