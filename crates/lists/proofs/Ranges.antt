-- Laws of `range`: its length and its entries, and how often a number stands in it. Assumes nothing.
use mathlib.Core.Path.{◌≡◌, refl, sym, ap}
use mathlib.Core.List.{List}
use mathlib.Core.Logic.{⊎_elim}
use Prim.Native.Nat.{ℕ, zero, suc, ◌+◌, ◌≤◌, ◌<◌}
use native.Mathlib.Nat.{not-suc-le-zero, le_of_suc-le-suc}
use native.Mathlib.Omega.{arith}
use lib.ListN.{length, get_or}
use lib.Seq.{ext_get_or}
use Rattle.lists.specs.Count.{count, Below}
use Rattle.lists.specs.Sort.{range}
use Rattle.lists.proofs.Numbers.{same?}
use Rattle.lists.proofs.Counts.{one_same, one_other}

pub length-range : (i n : ℕ) → length (range i n) ≡ n
length-range i zero = refl
length-range i (suc n) = ap suc (length-range (suc i) n)

pub get_or-range : (i n j : ℕ) → j < n → get_or (range i n) j 0 ≡ i + j
get_or-range i zero j h = absurd (not-suc-le-zero h)
get_or-range i (suc n) zero h = omega arith
get_or-range i (suc n) (suc j) h = omega (arith, get_or-range (suc i) n j (le_of_suc-le-suc h))

pub range-is : (l : List ℕ) → ((k : ℕ) → k < length l → get_or l k 0 ≡ k) → l ≡ range 0 (length l)
range-is l h =
    ext_get_or 0 l (range 0 (length l)) (sym (length-range 0 (length l)))
    (λ i g. omega (arith, h i g, get_or-range 0 (length l) i g))

pub range-below : (n : ℕ) → Below (range 0 n) n
range-below n i h = let g : i < n = rw length-range at h in omega (arith, get_or-range 0 n i g)

-- each number of a range counts once, every other number not at all
pub range_none : (x i n : ℕ) → x < i → count x (range i n) ≡ 0
range_none x i zero l = refl
range_none x i (suc n) l = omega (arith, one_other x i (omega arith), range_none x (suc i) n (omega arith))

pub range-once : (x i n : ℕ) → count x (range i n) ≤ 1
range-once x i zero = omega arith
range-once x i (suc n) =
    ⊎_elim (λ e. omega (arith, one_same x i e, range_none x (suc i) n (omega arith))) (λ e. omega (arith, one_other x i e, range-once x (suc i) n)) (same? x i)

pub range-one : (x i n : ℕ) → i ≤ x → x < i + n → count x (range i n) ≡ 1
range-one x i zero a b = absurd (omega arith)
range-one x i (suc n) a b =
    ⊎_elim (λ e. omega (arith, one_same x i e, range_none x (suc i) n (omega arith)))
    (λ e. omega (arith, one_other x i e, range-one x (suc i) n (omega arith) (omega arith))) (same? x i)

pub range_past : (x i n : ℕ) → i + n ≤ x → count x (range i n) ≡ 0
range_past x i zero a = refl
range_past x i (suc n) a = omega (arith, one_other x i (omega arith), range_past x (suc i) n (omega arith))
