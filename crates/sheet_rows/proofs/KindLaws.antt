-- What the crates above know of a kind: a prism is no mesh (`prism_no_mesh`); no row is wider than `max_width` (`width_few`, and for the bytes of several rows
-- `rows_few`, `row_within`); a row has as many numbers as its kind says (`row_width`). Assumes nothing.
use mathlib.Core.Path.{◌≡◌, refl}
use mathlib.Core.Bool.{true, false}
use Prim.Native.Nat.{ℕ, ◌+◌, ◌*◌, ◌≤◌, ◌<◌}
use native.Mathlib.Nat.{mul-le-mul, mul-le-mul_left}
use native.Mathlib.Omega.{arith}
use lib.ListN.{length}
use borrow.Author.Tests.{ne_eqb, eqb-true}
use Rattle.sheet_rows.specs.Kinds.{mesh_kind, prism_kind, is_mesh, is_prism, row_width, max_width}
use Rattle.sheet_rows.specs.Row.{row_numbers}
use Rattle.sheet_rows.specs.declared.Row.{Row}

pub prism_no_mesh : (kind : ℕ) → is_prism kind ≡ true → is_mesh kind ≡ false
unfolding is_prism is_mesh
prism_no_mesh kind e = let k = eqb-true kind prism_kind e in ne_eqb kind mesh_kind (λ q. omega arith)

pub width_few : (kind : ℕ) → row_width kind ≤ max_width
width_few kind = omega arith

-- n rows, with k bytes more to each
pub rows_few : (kind k n m : ℕ) → n ≤ m → (k + 8 * row_width kind) * n ≤ (k + 8 * max_width) * m
rows_few kind k n m h = let w = width_few kind in mul-le-mul {n₁ = k + 8 * row_width kind} {n₂ = k + 8 * max_width} (omega arith) h

-- row i is one of n
pub row_within : (kind i n : ℕ) → i < n → 8 * row_width kind * i + 8 * row_width kind ≤ 8 * row_width kind * n
row_within kind i n h = let l : 8 * row_width kind * (i + 1) ≤ 8 * row_width kind * n = mul-le-mul_left (8 * row_width kind) (omega arith) in omega arith

pub row_width_lem : (kind : ℕ) (r : Row) → length (row_numbers kind r) ≡ row_width kind
unfolding row_numbers
row_width_lem kind r = refl
