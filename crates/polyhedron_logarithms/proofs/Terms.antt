-- Where a face's next corner stands; a side's logarithm. Assumes nothing.
use mathlib.Core.Path.{◌≡◌, refl, ◌∙◌}
use mathlib.Core.Logic.{⊎_elim}
use Prim.Native.Nat.{ℕ, ◌+◌, ◌-◌, ◌%◌, ◌≤◌, ◌<◌}
use native.Mathlib.Omega.{arith}
use lib.Ieee.{Float}
use borrow.Author.Tests.{lt-ltb, le-ltb}
use Rattle.carlson.specs.Logarithm.{ln}
use Rattle.lists.proofs.Numbers.{below?}
use Rattle.polyhedron_edge_terms.specs.EdgeTerms.{logarithm}
use Rattle.polyhedron_edge_terms.specs.declared.Corner.{Corner}
use Rattle.polyhedron_logarithms.specs.Sides.{next, ratio}

pub next_low : (k : ℕ) → k < 16 → next k ≡ k + 8
unfolding next
next_low k h = simp (lt-ltb k 16 h)

pub next-high : (k : ℕ) → 16 ≤ k → next k ≡ k - 16
unfolding next
next-high k h = simp (le-ltb k 16 h)

pub next-below : (k : ℕ) → k < 24 → next k < 24
next-below k h =
    ⊎_elim (λ l. let e = next_low k l in omega arith) (λ l. let e = next-high k l in omega arith) (below? k 16)

-- as places that go round
pub next-round : (i j : ℕ) → i < 24 → (i + 8) % 24 ≡ j → next i ≡ j
next-round i j h e = ⊎_elim (λ l. next_low i l ∙ omega (arith, e, l)) (λ l. next-high i l ∙ omega (arith, e, l, h)) (below? i 16)

pub ratio-same : {a b a' b' : Corner} (e : Float) → a ≡ a' → b ≡ b' → ratio a b e ≡ ratio a' b' e
ratio-same e p q = rw (p, q)

pub logarithm-is : (a b : Corner) (e : Float) → ln (ratio a b e) ≡ logarithm a b e
unfolding ratio logarithm
logarithm-is a b e = refl
