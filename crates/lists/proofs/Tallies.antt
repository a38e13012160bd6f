-- Laws of `tally`: none, one, some and two numbers that pass. Assumes nothing.
use mathlib.Core.Path.{◌≡◌, refl, sym, ap, ◌∙◌}
use mathlib.Core.Bool.{Bool, true, false}
use mathlib.Core.Logic.{⊎_elim}
use Prim.Native.Nat.{ℕ, zero, suc, ◌≤◌, ◌<◌}
use native.Mathlib.Nat.{le_of_eq}
use native.Mathlib.Omega.{arith}
use Rattle.lists.specs.Count.{one, tally}
use Rattle.lists.proofs.Numbers.{same?}

one-most : (b : Bool) → one b ≤ 1
one-most true = omega arith
one-most false = omega arith

module _ (p : ℕ → Bool) where
  one_no : (b : Bool) → (b ≡ true → ⊥) → one b ≡ 0
  one_no true h = absurd (h refl)
  one_no false h = refl

  tally-none : (n : ℕ) → ((j : ℕ) → j < n → p j ≡ true → ⊥) → tally p n ≡ 0
  tally-none zero h = refl
  tally-none (suc n) h = omega (arith, one_no (p n) (h n (omega arith)), tally-none n (λ j l. h j (omega arith)))

  pub tally-one : (n i : ℕ) → i < n → p i ≡ true → ((j : ℕ) → j < n → p j ≡ true → j ≡ i) → tally p n ≡ 1
  tally-one zero i l t h = absurd (omega arith)
  tally-one (suc n) i l t h =
      ⊎_elim
      (λ z. omega (arith, ap one (ap p (sym z) ∙ t), tally-none n (λ j m q. omega (arith, h j (omega arith) q))))
      (λ z. omega (arith, one_no (p n) (λ q. z (omega (arith, h n (omega arith) q))), tally-one n i (omega arith) t (λ j m q. h j (omega arith) q)))
      (same? i n)

  one_yes : (b : Bool) → b ≡ true → one b ≡ 1
  one_yes b e = ap one e

  pub tally_some : (n i : ℕ) → i < n → p i ≡ true → 1 ≤ tally p n
  tally_some zero i l t = absurd (omega arith)
  tally_some (suc n) i l t =
      ⊎_elim (λ z. omega (arith, one_yes (p n) (ap p (sym z) ∙ t))) (λ z. omega (arith, tally_some n i (omega arith) t)) (same? i n)

  pub tally-two : (n i j : ℕ) → i < j → j < n → p i ≡ true → p j ≡ true → 2 ≤ tally p n
  tally-two zero i j ij l t s = absurd (omega arith)
  tally-two (suc n) i j ij l t s =
      ⊎_elim (λ z. omega (arith, one_yes (p n) (ap p (sym z) ∙ s), tally_some n i (omega arith) t))
      (λ z. omega (arith, tally-two n i j ij (omega arith) t s)) (same? j n)

  pub some_tally : (n : ℕ) → 1 ≤ tally p n → (i : ℕ) × (i < n) × (p i ≡ true)
  some_tally zero h = absurd (omega arith)
  some_tally (suc n) h = go (p n) refl (λ g. some_tally n g)
    where
      go : (b : Bool) → p n ≡ b → (1 ≤ tally p n → (i : ℕ) × (i < n) × (p i ≡ true)) → (i : ℕ) × (i < suc n) × (p i ≡ true)
      go true e rest = (n, omega arith, e)
      go false e rest = let r = rest (omega (arith, ap one e)) in (r.0, omega (arith, r.1), r.2)

  -- a tally grows with the numbers tried, and is at most as many
  pub tally_grow : (m n : ℕ) → m ≤ n → tally p m ≤ tally p n
  tally_grow m zero l = le_of_eq (ap (tally p) (let e : m ≡ 0 = omega arith in e))
  tally_grow m (suc n) l = ⊎_elim (λ e. le_of_eq (ap (tally p) e)) (λ e. omega (arith, tally_grow m n (omega arith))) (same? m (suc n))

  pub tally-most : (n : ℕ) → tally p n ≤ n
  tally-most zero = omega arith
  tally-most (suc n) = omega (arith, one-most (p n), tally-most n)
