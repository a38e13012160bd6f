-- Loops that set lane k to g k. States: `none_filled`, `one-filled`, `all-filled`: how such a loop begins, goes on and ends; `refilled`: a second loop goes on where the
-- first ended. Assumes nothing.
use Rattle.std.proofs.Common.{◌≡◌, ℕ, ◌+◌, ◌<◌, ◌≤◌, List, length, set, sym, refl, ap, ◌∙◌, ⊎_elim, zero-le, not-suc-le-zero, arith, length-set, get_or-set_other, get_or-set_same}
use lib.Ieee.{Float, nan}
use Rattle.lists.proofs.Numbers.{same?}
use Rattle.lanes.specs.Lanes.{lane, Lanes}

-- of n lanes, those below k are g's, and the rest are w₀'s
pub record Filled (n : ℕ) (g : ℕ → Float) (w₀ : List Float) (k : ℕ) (w : List Float) : Type 0 where
  pub size : length w ≡ n
  pub upto : k ≤ n
  pub below : (j : ℕ) → j < k → lane w j ≡ g j
  pub rest : (j : ℕ) → k ≤ j → lane w j ≡ lane w₀ j

pub none_filled : {n : ℕ} {g : ℕ → Float} {w : List Float} → length w ≡ n → Filled n g w 0 w
none_filled e = record { size = e; upto = zero-le; below = λ j l. absurd (not-suc-le-zero l); rest = λ j l. refl }

pub one-filled : {n k : ℕ} {g : ℕ → Float} {w₀ w : List Float} {v : Float} → Filled n g w₀ k w → k < n → v ≡ g k → Filled n g w₀ (k + 1) (set w k v)
one-filled {n} {k} {g} {w₀} {w} {v} f l e = record {
  size = length-set w k v ∙ f.size;
  upto = omega arith;
  below = λ j m.
      ⊎_elim (λ z. ap (λ (i : ℕ). lane (set w k v) i) z ∙ get_or-set_same w k v nan (let s = f.size in omega arith) ∙ e ∙ ap g (sym z))
      (λ z. get_or-set_other w k j v nan z ∙ f.below j (omega arith)) (same? j k);
  rest = λ j m. get_or-set_other w k j v nan (λ z. omega arith) ∙ f.rest j (omega arith);
}

pub all-filled : {n k : ℕ} {g : ℕ → Float} {w₀ w : List Float} → Filled n g w₀ k w → n ≤ k → Lanes n g w
all-filled f l = record { size = f.size; at = λ j m. f.below j (omega arith) }

pub refilled : {n k : ℕ} {g : ℕ → Float} {w₀ w : List Float} → Filled n g w₀ k w → (m : ℕ) → k ≡ m → Filled n g w m w
refilled f m e = record { size = f.size; upto = rw (← e) f.upto; below = λ j l. f.below j (rw e l); rest = λ j l. refl }
