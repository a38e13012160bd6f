-- Laws of `count`, `Perm` and `Below`. States: `entry_counts`, `counts_entry`: an entry is what counts at least once; `perm_entry`, `perm_below`: permutations have the same entries.
-- Assumes nothing.
use mathlib.Core.Path.{◌≡◌, refl, sym, ap, subst}
use mathlib.Core.List.{List, [], ◌∷◌}
use mathlib.Core.Logic.{⊎_elim}
use Prim.Native.Nat.{ℕ, zero, suc, ◌≤◌, ◌<◌, zero-le, suc-le-suc}
use native.Mathlib.Nat.{not-suc-le-zero, le_of_suc-le-suc}
use native.Mathlib.Omega.{arith}
use lib.ListN.{length, get_or}
use lib.Dec.{eqb}
use borrow.Author.Tests.{eq-eqb, ne_eqb}
use Rattle.lists.specs.Count.{one, count, Perm, Below}
use Rattle.lists.proofs.Numbers.{same?}

pub one_same : (x y : ℕ) → x ≡ y → one (eqb x y) ≡ 1
one_same x y e = ap one (eq-eqb x y e)

pub one_other : (x y : ℕ) → (x ≡ y → ⊥) → one (eqb x y) ≡ 0
one_other x y n = ap one (ne_eqb x y n)

-- an entry counts, and what counts is an entry
pub entry_counts : (l : List ℕ) (i : ℕ) → i < length l → 1 ≤ count (get_or l i 0) l
entry_counts [] i h = absurd (not-suc-le-zero h)
entry_counts (y ∷ l) zero h = omega (arith, one_same y y refl)
entry_counts (y ∷ l) (suc i) h = omega (arith, entry_counts l i (le_of_suc-le-suc h))

pub record Place (x : ℕ) (l : List ℕ) : Type 0 where
  pub at : ℕ
  pub within : at < length l
  pub is : get_or l at 0 ≡ x

pub counts_entry : (x : ℕ) (l : List ℕ) → 1 ≤ count x l → Place x l
counts_entry x [] h = absurd (not-suc-le-zero h)
counts_entry x (y ∷ l) h = ⊎_elim here (there (λ g. counts_entry x l g)) (same? x y)
  where
    here : x ≡ y → Place x (y ∷ l)
    here e = record { at = 0; within = suc-le-suc zero-le; is = sym e }

    there : (1 ≤ count x l → Place x l) → (x ≡ y → ⊥) → Place x (y ∷ l)
    there rest n =
        let p = rest (omega (arith, one_other x y n)) in
        record { at = suc p.at; within = suc-le-suc p.within; is = p.is }

-- an entry of one of two lists with the same counts is an entry of the other
pub perm_entry : (l m : List ℕ) → Perm l m → (i : ℕ) → i < length m → Place (get_or m i 0) l
perm_entry l m p i h = counts_entry (get_or m i 0) l (omega (arith, p (get_or m i 0), entry_counts m i h))

pub perm_below : (l m : List ℕ) (b : ℕ) → Perm l m → Below l b → Below m b
perm_below l m b p h i hi =
    let q = perm_entry l m p i hi in
    subst (λ (n : ℕ). n < b) q.is (h q.at q.within)

-- past the end stands 0
pub below_all : (l : List ℕ) (b : ℕ) → 0 < b → Below l b → (i : ℕ) → get_or l i 0 < b
below_all [] b pos h i = pos
below_all (x ∷ l) b pos h zero = h 0 (suc-le-suc zero-le)
below_all (x ∷ l) b pos h (suc i) = below_all l b pos (λ j g. h (suc j) (suc-le-suc g)) i

-- a number that stands at two places counts twice
pub count-two : (x : ℕ) (l : List ℕ) (i j : ℕ) → i < j → j < length l → get_or l i 0 ≡ x → get_or l j 0 ≡ x → 2 ≤ count x l
count-two x [] i j ij jl a b = absurd (omega arith)
count-two x (y ∷ l) i zero ij jl a b = absurd (omega arith)
count-two x (y ∷ l) zero (suc j) ij jl a b =
    omega (arith, one_same x y (sym a), subst (λ (z : ℕ). 1 ≤ count z l) b (entry_counts l j (omega arith)))
count-two x (y ∷ l) (suc i) (suc j) ij jl a b = omega (arith, count-two x l i j (omega arith) (omega arith) a b)
