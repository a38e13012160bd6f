-- A loop that counts up: step (n - 1) after .. after step 1 after step 0. Sums are folds, so that their order of roundings is the loop's. States: `fold-none` and
-- `fold_more`: what no turn and one turn more give. Assumes nothing.
use Rattle.std.specs.Prelude.{◌≡◌, refl, ℕ, zero, suc, ◌+◌}
use Rattle.std.proofs.Common.{add-one}

unfoldable pub Fold : {A : Type 0} → ℕ → (ℕ → A → A) → A → A
Fold zero step a = a
Fold (suc k) step a = step k (Fold k step a)

-- no turn, and one turn more
pub fold-none : {A : Type 0} (step : ℕ → A → A) (a : A) → Fold 0 step a ≡ a
unfolding Fold
fold-none step a = refl

pub fold_more : {A : Type 0} (k : ℕ) (step : ℕ → A → A) (a : A) → Fold (k + 1) step a ≡ step k (Fold k step a)
unfolding Fold
fold_more k step a = rw add-one
