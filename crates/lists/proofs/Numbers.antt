-- Two numbers are equal or not, and one is below the other or not: the case splits of the other laws; two tests in one. Assumes nothing.
use mathlib.Core.Path.{◌≡◌, refl, sym, ap₂, ◌∙◌}
use mathlib.Core.Bool.{Bool, true, false, ◌&&◌}
use mathlib.Core.Logic.{◌⊎◌, inl, inr}
use Prim.Native.Nat.{ℕ, ◌≤◌, ◌<◌}
use native.Mathlib.Decide.{ℕ_discrete, dec_lt}
use native.Mathlib.Omega.{arith}
use lib.Dec.{leb}
use borrow.Author.Tests.{le-leb, leb-true}

pub same? : (x y : ℕ) → (x ≡ y) ⊎ (x ≡ y → ⊥)
same? x y = go (ℕ_discrete x y)
  where
    go : Dec (x ≡ y) → (x ≡ y) ⊎ (x ≡ y → ⊥)
    go (yes e) = inl e
    go (no n) = inr n

pub below? : (x y : ℕ) → (x < y) ⊎ (y ≤ x)
below? x y = go (dec_lt x y)
  where
    go : Dec (x < y) → (x < y) ⊎ (y ≤ x)
    go (yes l) = inl l
    go (no n) = inr (omega arith)

pub true≢false : true ≡ false → ⊥
true≢false e = let z : ◌≡◌ {A = ℕ} 0 1 = cc in omega arith

-- both tests hold
pub both : (x y : Bool) → (x && y) ≡ true → (x ≡ true) × (y ≡ true)
both true true e = (refl, refl)
both true false e = absurd (let z : ◌≡◌ {A = ℕ} 0 1 = cc in omega arith)
both false y e = absurd (let z : ◌≡◌ {A = ℕ} 0 1 = cc in omega arith)

-- both numbers are within their limits, or not both
pub both_within : (x y m n : ℕ) → (leb x m && leb y n) ≡ true → (x ≤ m) × (y ≤ n)
both_within x y m n e = let w = both (leb x m) (leb y n) e in (leb-true x m w.0, leb-true y n w.1)

pub not_both_within : (x y m n : ℕ) → (leb x m && leb y n) ≡ false → x ≤ m → y ≤ n → ⊥
not_both_within x y m n e p q = true≢false (sym (ap₂ (λ (a b : Bool). a && b) (le-leb x m p) (le-leb y n q)) ∙ e)
