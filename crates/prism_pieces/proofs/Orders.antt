-- Bounds of the orders of a cubature. States: `product_fits`; `orders`: those of an affordable one; `too_high`: one above the bound is not affordable. Assumes nothing.
use Prim.Native.Nat.{ℕ, ◌*◌, ◌≤◌, ◌<◌}
use mathlib.Core.Path.{◌≡◌, refl}
use mathlib.Core.Bool.{Bool, true, false, ◌&&◌}
use native.Mathlib.Nat.{mul-le-mul, lt_of_le_of_lt}
use mathlib.Core.Logic.{◌⊎◌, inl, inr}
use borrow.Author.Tests.{leb-true, le-leb, lt-leb}
use lib.Dec.{leb}
use Rattle.legendre.specs.GaussLegendre.{max_order}
use Rattle.prism_pieces.specs.Choice.{max_points, affordable}

pub product_fits : (a b : ℕ) {l m n : ℕ} → l ≤ a → m ≤ b → a * b < n → l * m < n
product_fits a b p q r = lt_of_le_of_lt (mul-le-mul p q) r

both : (a b : Bool) → (a && b) ≡ true → (a ≡ true) × (b ≡ true)
both true b e = (refl, e)
both false b e = (e, cc)

pub orders : (l m n : ℕ) → affordable l m n ≡ true → (l ≤ max_order) × (m ≤ max_order) × (n ≤ max_order)
unfolding affordable
orders l m n e =
    let p = both (leb l max_order) (leb m max_order && (leb n max_order && leb (l * m * n) max_points)) e in
    let q = both (leb m max_order) (leb n max_order && leb (l * m * n) max_points) p.1 in
    let r = both (leb n max_order) (leb (l * m * n) max_points) q.1 in
    (leb-true l max_order p.0, leb-true m max_order q.0, leb-true n max_order r.0)

pub too_high : (l m n : ℕ) → (max_order < l) ⊎ (((l ≤ max_order) × (max_order < m)) ⊎ ((l ≤ max_order) × (m ≤ max_order) × (max_order < n))) → affordable l m n ≡ false
unfolding affordable
too_high l m n (inl h) = simp (lt-leb l max_order h)
too_high l m n (inr (inl h)) = simp (le-leb l max_order h.0, lt-leb m max_order h.1)
too_high l m n (inr (inr h)) = simp (le-leb l max_order h.0, le-leb m max_order h.1, lt-leb n max_order h.2)
