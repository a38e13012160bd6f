-- States: `pigeonhole`: n numbers below n, no two of them equal, are a permutation of 0, 1, .., n - 1. Assumes nothing.
use mathlib.Core.Path.{◌≡◌, refl, sym, ap, ◌∙◌}
use mathlib.Core.List.{List, [], ◌∷◌}
use mathlib.Core.Logic.{⊎_elim}
use Prim.Native.Nat.{ℕ, zero, suc, ◌+◌, ◌≤◌, ◌<◌, zero-le, suc-le-suc}
use native.Mathlib.Nat.{not-suc-le-zero}
use native.Mathlib.Omega.{arith}
use lib.ListN.{length, get_or}
use lib.Dec.{eqb}
use Rattle.lists.specs.Count.{one, count, partial_sum, Perm, Below}
use Rattle.lists.specs.Sort.{range}
use Rattle.lists.proofs.Numbers.{same?, below?}
use Rattle.lists.proofs.Counts.{one_same, one_other, counts_entry}
use Rattle.lists.proofs.PartialSums.{partial_sum-add, partial_sum-zero}
use Rattle.lists.proofs.Ranges.{range-one, range_past}

partial_sum-none : (y n : ℕ) → n ≤ y → partial_sum (λ x. one (eqb x y)) n ≡ 0
partial_sum-none y zero l = refl
partial_sum-none y (suc n) l = omega (arith, one_other n y (omega arith), partial_sum-none y n (omega arith))

partial_sum_hit : (y n : ℕ) → y < n → partial_sum (λ x. one (eqb x y)) n ≡ 1
partial_sum_hit y zero l = absurd (not-suc-le-zero l)
partial_sum_hit y (suc n) l =
    ⊎_elim (λ e. omega (arith, one_same n y e, partial_sum-none y n (omega arith))) (λ e. omega (arith, one_other n y e, partial_sum_hit y n (omega arith))) (same? n y)

-- each entry is counted once
partial_sum-count : (l : List ℕ) (n : ℕ) → Below l n → partial_sum (λ x. count x l) n ≡ length l
partial_sum-count [] n h = partial_sum-zero n
partial_sum-count (y ∷ l) n h =
    omega (
      arith,
      partial_sum-add (λ x. one (eqb x y)) (λ x. count x l) n,
      partial_sum_hit y n (h 0 (omega arith)),
      partial_sum-count l n (λ i g. h (suc i) (suc-le-suc g)),
    )

-- n numbers of at most 1 that add up to n are each 1
partial_sum-le : (g : ℕ → ℕ) (n : ℕ) → ((x : ℕ) → g x ≤ 1) → partial_sum g n ≤ n
partial_sum-le g zero h = zero-le
partial_sum-le g (suc n) h = omega (arith, h n, partial_sum-le g n h)

partial_sum-full : (g : ℕ → ℕ) (n : ℕ) → ((x : ℕ) → g x ≤ 1) → partial_sum g n ≡ n → (x : ℕ) → x < n → g x ≡ 1
partial_sum-full g zero h e x l = absurd (not-suc-le-zero l)
partial_sum-full g (suc n) h e x l =
    ⊎_elim (λ z. omega (arith, ap g z, h n, partial_sum-le g n h)) (λ z. partial_sum-full g n h (omega (arith, h n, partial_sum-le g n h)) x (omega arith)) (same? x n)

-- entries that differ count at most once
pub at-most-once : (l : List ℕ) → ((i j : ℕ) → i < j → j < length l → get_or l i 0 ≡ get_or l j 0 → ⊥) → (x : ℕ) → count x l ≤ 1
at-most-once [] h x = zero-le
at-most-once (y ∷ l) h x =
    let rest = at-most-once l (λ i j ij jl. h (suc i) (suc j) (suc-le-suc ij) (suc-le-suc jl)) x in
    ⊎_elim hit (λ e. omega (arith, one_other x y e, rest)) (same? x y)
  where
    hit : x ≡ y → one (eqb x y) + count x l ≤ 1
    hit e = ⊎_elim (λ c. omega (arith, one_same x y e)) (λ c. absurd (again c)) (below? (count x l) 1)
      where
        again : 1 ≤ count x l → ⊥
        again c =
            let p = counts_entry x l c in
            h 0 (suc p.at) (omega arith) (suc-le-suc p.within) (sym e ∙ sym p.is)

-- n numbers below n, no two of them equal, are 0, 1, .., n - 1 in some order
pub pigeonhole : (l : List ℕ) (n : ℕ) → length l ≡ n → Below l n → ((i j : ℕ) → i < j → j < length l → get_or l i 0 ≡ get_or l j 0 → ⊥)
    → Perm (range 0 n) l
pigeonhole l n e b h x = ⊎_elim inside outside (below? x n)
  where
    inside : x < n → count x (range 0 n) ≡ count x l
    inside g = range-one x 0 n zero-le (omega arith) ∙ sym (partial_sum-full (λ z. count z l) n (at-most-once l h) (partial_sum-count l n b ∙ e) x g)

    outside : n ≤ x → count x (range 0 n) ≡ count x l
    outside g =
        ⊎_elim (λ c. omega (arith, range_past x 0 n (omega arith)))
        (λ c. absurd (let p = counts_entry x l c in omega (arith, p.is, b p.at p.within))) (below? (count x l) 1)
