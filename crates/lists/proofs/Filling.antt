-- Lists of g 0, g 1, .. States: `filled_more`: a turn of the loop that writes one; `filled-all`: what it has written at the end is `map g`. Assumes nothing.
use mathlib.Core.Path.{◌≡◌, sym, ap, ◌∙◌}
use mathlib.Core.List.{List, map}
use mathlib.Core.Logic.{⊎_elim}
use Prim.Native.Nat.{ℕ, zero, suc, ◌+◌, ◌<◌}
use native.Mathlib.Nat.{not-suc-le-zero, le_of_suc-le-suc}
use native.Mathlib.Omega.{arith}
use lib.ListN.{length, get_or, set, length-map}
use lib.Seq.{ext_get_or, get_or-set_same, get_or-set_other}
use Rattle.lists.specs.Sort.{range}
use Rattle.lists.proofs.Numbers.{same?}
use Rattle.lists.proofs.Ranges.{length-range}

pub filled_more : (g : ℕ → ℕ) (w : List ℕ) (i a : ℕ) → i < length w → a ≡ g i → ((k : ℕ) → k < i → get_or w k 0 ≡ g k)
    → (k : ℕ) → k < i + 1 → get_or (set w i a) k 0 ≡ g k
filled_more g w i a l e h k m =
    ⊎_elim (λ z. ap (λ (n : ℕ). get_or (set w i a) n 0) z ∙ get_or-set_same w i a 0 l ∙ e ∙ ap g (sym z))
    (λ z. get_or-set_other w i k a 0 z ∙ h k (omega arith)) (same? k i)

pub map_range : (g : ℕ → ℕ) (i n j : ℕ) → j < n → get_or (map g (range i n)) j 0 ≡ g (i + j)
map_range g i zero j h = absurd (not-suc-le-zero h)
map_range g i (suc n) zero h = ap g (let e : i ≡ i + 0 = omega arith in e)
map_range g i (suc n) (suc j) h = map_range g (suc i) n j (le_of_suc-le-suc h) ∙ ap g (let e : suc i + j ≡ i + suc j = omega arith in e)

pub filled-all : (g : ℕ → ℕ) (w : List ℕ) (n : ℕ) → length w ≡ n → ((k : ℕ) → k < length w → get_or w k 0 ≡ g k) → w ≡ map g (range 0 n)
filled-all g w n e h =
    ext_get_or 0 w (map g (range 0 n)) (omega (arith, length-map (range 0 n) g, length-range 0 n))
    (λ i l. h i l ∙ ap g (let q : i ≡ 0 + i = omega arith in q) ∙ sym (map_range g 0 n i (omega arith)))
