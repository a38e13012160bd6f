-- Folds of folds. States: `fold-add`: n turns after k; `fold_same`: two steps that are the same; `fold_nested`: m times n turns, by n at a time. Assumes nothing.
use Rattle.std.proofs.Common.{◌≡◌, ℕ, zero, suc, ◌+◌, ◌*◌, ◌<◌, refl, ap, ◌∙◌, arith}
use Rattle.newtonian.specs.Fold.{Fold, fold_more}

pub fold-add : {A : Type 0} (k n : ℕ) (step : ℕ → A → A) (a : A) → Fold (k + n) step a ≡ Fold n (λ i. step (k + i)) (Fold k step a)
unfolding Fold
fold-add k zero step a = let e : k + 0 ≡ k = omega arith in ap (λ (m : ℕ). Fold m step a) e
fold-add k (suc n) step a =
    let e : k + suc n ≡ k + n + 1 = omega arith in
    ap (λ (m : ℕ). Fold m step a) e ∙ fold_more (k + n) step a ∙ ap (step (k + n)) (fold-add k n step a)

pub fold_same : {A : Type 0} (n : ℕ) (f g : ℕ → A → A) (a : A) → ((k : ℕ) → k < n → (b : A) → f k b ≡ g k b) → Fold n f a ≡ Fold n g a
unfolding Fold
fold_same zero f g a h = refl
fold_same (suc n) f g a h = ap (f n) (fold_same n f g a (λ k l b. h k (omega arith) b)) ∙ h n (omega arith) (Fold n g a)

pub fold_nested : {A : Type 0} (m n : ℕ) (step : ℕ → A → A) (a : A) → Fold (m * n) step a ≡ Fold m (λ i. Fold n (λ j. step (i * n + j))) a
unfolding Fold
fold_nested zero n step a = let e : 0 * n ≡ 0 = omega arith in ap (λ (k : ℕ). Fold k step a) e
fold_nested (suc m) n step a =
    let e : suc m * n ≡ m * n + n = omega arith in
    ap (λ (k : ℕ). Fold k step a) e ∙ fold-add (m * n) n step a ∙ ap (Fold n (λ j. step (m * n + j))) (fold_nested m n step a)
