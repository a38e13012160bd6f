-- A loop that sets matrix k of several to g k. States: `no_dyads`, `one-dyad`, `all_dyads`: how it begins, goes on and ends. Assumes nothing.
use mathlib.Core.Path.{◌≡◌, ◌∙◌}
use mathlib.Core.List.{List}
use mathlib.Core.Logic.{⊎_elim}
use Prim.Native.Nat.{ℕ, ◌+◌, ◌≤◌, ◌<◌}
use native.Mathlib.Omega.{arith}
use lib.ListN.{length, set, length-set}
use lib.Seq.{get_or-set_same, get_or-set_other}
use Rattle.lists.proofs.Numbers.{same?}
use Rattle.newtonian.specs.declared.Hessian.{Hessian}
use Rattle.polyhedron_faces.specs.Faces.{matrix_at, no_matrix}

-- of n matrices, those below k are g's
pub record FilledDyads (n : ℕ) (g : ℕ → Hessian) (k : ℕ) (w : List Hessian) : Type 0 where
  pub size : length w ≡ n
  pub below : (j : ℕ) → j < k → matrix_at w j ≡ g j

module _ {n : ℕ} {g : ℕ → Hessian} {w : List Hessian} where
  pub no_dyads : length w ≡ n → FilledDyads n g 0 w
  no_dyads e = record { size = e; below = λ j l. absurd (omega arith) }

  pub one-dyad : {k : ℕ} {v : Hessian} → FilledDyads n g k w → k < n → v ≡ g k → FilledDyads n g (k + 1) (set w k v)
  one-dyad {k} {v} f l e = record {
    size = length-set w k v ∙ f.size;
    below = λ j m.
        ⊎_elim
        (λ z. rw z (get_or-set_same w k v no_matrix (omega (arith, f.size)) ∙ e))
        (λ z. get_or-set_other w k j v no_matrix z ∙ f.below j (omega (arith, z)))
        (same? j k);
  }

  pub all_dyads : {k : ℕ} → FilledDyads n g k w → n ≤ k → (j : ℕ) → j < n → matrix_at w j ≡ g j
  all_dyads f l j m = f.below j (omega arith)
