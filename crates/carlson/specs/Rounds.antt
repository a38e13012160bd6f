-- A loop of at most n rounds over any state: a round is made while the test holds. Definitions only; `RoundLaws` has its laws.
use Rattle.std.specs.Prelude.{ℕ, zero, suc, Bool, true, false}

-- the state after at most n rounds from s, where b is the test at s
unfoldable pub rounds_from : {S : Type 0} → (S → Bool) → (S → S) → ℕ → S → Bool → S
rounds_from test step zero s b = s
rounds_from test step (suc n) s false = s
rounds_from test step (suc n) s true = rounds_from test step n (step s) (test (step s))

abbrev pub rounds : {S : Type 0} → (S → Bool) → (S → S) → ℕ → S → S
rounds test step n s = rounds_from test step n s (test s)

-- ---- the same for a test and a step that are relations, as the calls of closures are

-- n steps lead from s to t
pub data Steps {S : Type 0} (step : S → S → Type 0) (s : S) : ℕ → S → Type 0 where
  none : Steps step s 0 s
  one_more : {n : ℕ} {t u : S} → Steps step s n t → step t u → Steps step s (suc n) u

-- at most n rounds lead from s to t: the test fails at t, or no round is left
pub data Rounds {S : Type 0} (test : S → Bool → Type 0) (step : S → S → Type 0) : ℕ → S → S → Type 0 where
  none_left : {s : S} → Rounds test step 0 s s
  stop : {n : ℕ} {s : S} → test s false → Rounds test step n s s
  round : {n : ℕ} {s t u : S} → test s true → step s t → Rounds test step n t u → Rounds test step (suc n) s u
