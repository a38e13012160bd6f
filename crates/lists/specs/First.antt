-- The first number that passes a test. Definitions only.
use Rattle.std.specs.Prelude.{◌≡◌, Bool, true, false, cond, ℕ, zero, suc, ◌≤◌, ◌<◌}

-- the first of i, i + 1, .., i + n - 1 that passes the test p, or i + n where none does
abbrev pub first : (ℕ → Bool) → ℕ → ℕ → ℕ
first p i zero = i
first p i (suc n) = cond (p i) i (first p (suc i) n)

-- r is the first number below n that passes p, or n where none does
pub record IsFirst (p : ℕ → Bool) (n r : ℕ) : Type 0 where
  pub upto : r ≤ n
  pub before : (k : ℕ) → k < r → p k ≡ false
  pub here : r < n → p r ≡ true
