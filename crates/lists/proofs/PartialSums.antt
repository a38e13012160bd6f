-- Sums of a function over 0, 1, .., n - 1. Assumes nothing.
use mathlib.Core.Path.{◌≡◌, refl, ap}
use mathlib.Core.Logic.{⊎_elim}
use Prim.Native.Nat.{ℕ, zero, suc, ◌+◌, ◌≤◌, ◌<◌}
use native.Mathlib.Nat.{le_of_eq}
use native.Mathlib.Omega.{arith}
use Rattle.lists.specs.Count.{partial_sum}
use Rattle.lists.proofs.Numbers.{same?}

pub partial_sum-add : (g h : ℕ → ℕ) (n : ℕ) → partial_sum (λ x. g x + h x) n ≡ partial_sum g n + partial_sum h n
partial_sum-add g h zero = refl
partial_sum-add g h (suc n) = omega (arith, partial_sum-add g h n)

pub partial_sum-zero : (n : ℕ) → partial_sum (λ x. 0) n ≡ 0
partial_sum-zero zero = refl
partial_sum-zero (suc n) = omega (arith, partial_sum-zero n)

pub partial_sum_grow : (g : ℕ → ℕ) (m n : ℕ) → m ≤ n → partial_sum g m ≤ partial_sum g n
partial_sum_grow g m zero l = le_of_eq (ap (partial_sum g) (let e : m ≡ 0 = omega arith in e))
partial_sum_grow g m (suc n) l = ⊎_elim (λ e. le_of_eq (ap (partial_sum g) e)) (λ e. omega (arith, partial_sum_grow g m n (omega arith))) (same? m (suc n))

pub partial_sum_cong : (g h : ℕ → ℕ) (n : ℕ) → ((x : ℕ) → x < n → g x ≡ h x) → partial_sum g n ≡ partial_sum h n
partial_sum_cong g h zero e = refl
partial_sum_cong g h (suc n) e = omega (arith, e n (omega arith), partial_sum_cong g h n (λ x l. e x (omega arith)))
