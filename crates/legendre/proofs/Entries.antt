-- The entries of the table as the code reads them: how many there are, where an order's stand, that each can be read as a double, and one more of them in an array.
-- Assumes nothing.
use mathlib.Core.Path.{◌≡◌, refl}
use mathlib.Core.Bool.{not}
use mathlib.Core.List.{List}
use Prim.Native.Nat.{ℕ, ◌+◌, ◌*◌, ◌≤◌, ◌<◌}
use native.Mathlib.Nat.{mul-le-mul, add-le-add}
use native.Mathlib.Numerals.{add-one}
use lib.Dec.{T}
use lib.ListN.{length, get_or, set}
use lib.Ieee.{Float, binary64, of_bits, nan_bits}
use Rattle.legendre.specs.Table.{table}
use Rattle.legendre.specs.GaussLegendre.{max_order, entry, padded}
use Rattle.legendre.proofs.TableIsGaussLegendre.{entries-not-nan}

pub entries : length table ≡ max_order * (max_order + 1)
unfolding table
entries = refl

pub square : (n : ℕ) → n ≤ max_order → n * n + n ≤ length table
square n h = rw entries (add-le-add (mul-le-mul {n₂ = max_order} {m₂ = max_order} h h) h)

module _ (t : List ℕ) (same : t ≡ table) where
  pub readable : (j : ℕ) → j < length table → T (not (nan_bits binary64 (get_or t j 0)))
  readable j h = rw same (entries-not-nan j h)

  pub padded-more :
      (start i : ℕ) (r : List Float) → r ≡ padded i (λ j. entry (start + j))
      → set r i (of_bits binary64 (get_or t (start + i) 0)) ≡ padded (i + 1) (λ j. entry (start + j))
  unfolding padded entry
  padded-more start i r e = rw (add-one, same, e)
