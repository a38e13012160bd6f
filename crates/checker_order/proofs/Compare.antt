-- The tests of the scans, as the code makes them. Assumes nothing.
use mathlib.Core.Path.{◌≡◌, sym, ap, ◌∙◌}
use mathlib.Core.Bool.{Bool, false, ◌||◌}
use mathlib.Core.List.{List}
use Prim.Native.Nat.{ℕ, zero, suc, ◌+◌, ◌-◌, ◌≤◌, ◌<◌}
use native.Mathlib.Omega.{arith}
use lib.Dec.{eqb, ltb}
use lib.ListN.{length, get_or}
use borrow.Author.Tests.{lt-ltb, le-ltb}
use Rattle.mesh_orders.specs.Edges.{edge}
use Rattle.sheet.specs.Checker.{ascends}

-- ---- 17: u is the entry, e its edge

pub no_use : (f o : List ℕ) (i u : ℕ) → get_or o i 0 ≡ u → length f ≤ u → ascends f o i ≡ false
no_use f o i u q h = rw (q, le-ltb u (length f) h)

-- the last edge, if there is one
abbrev pub Last : List ℕ → List ℕ → ℕ → ℕ → Type 0
Last f o i last = 0 < i → last ≡ edge f (get_or o (i - 1) 0)

pub last_start : (f o : List ℕ) (last : ℕ) → Last f o 0 last
last_start f o last h = absurd (omega arith)

module _ (f o : List ℕ) (u e : ℕ) (h : u < length f) (p : e ≡ edge f u) where
  pub a_use : (i last : ℕ) {s t : Bool} → get_or o i 0 ≡ u → Last f o i last → s ≡ (eqb i 0 || ltb last e) → s ≡ t → ascends f o i ≡ t
  a_use zero last q w n s = rw (q, lt-ltb u (length f) h) (sym n ∙ s)
  a_use (suc i) last q w n s = rw (q, lt-ltb u (length f) h, ← w (omega arith), ← p) (sym n ∙ s)

  pub next_last : (i : ℕ) → get_or o i 0 ≡ u → Last f o (i + 1) e
  next_last i q l = let k : i + 1 - 1 ≡ i = omega arith in p ∙ ap (edge f) (sym q ∙ ap (λ (j : ℕ). get_or o j 0) (sym k))
