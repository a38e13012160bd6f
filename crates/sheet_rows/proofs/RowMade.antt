-- States: `row_made`: the row at a station is that of the field there. Assumes nothing.
use mathlib.Core.Path.{◌≡◌, ap}
use mathlib.Core.List.{List}
use Prim.Native.Nat.{ℕ}
use lib.Ieee.{Float}
use Rattle.refusals.specs.Answer.{Answer}
use Rattle.newtonian.specs.declared.Newtonian.{Newtonian}
use Rattle.newtonian.specs.declared.Vector.{Vector}
use Rattle.sheet_rows.specs.Row.{field_at, in_row, row_at}

pub row_made : (kind i : ℕ) (m b p : Vector) (v : List Float) (f : List ℕ) (q : Answer Newtonian) → q ≡ field_at kind i p v f → in_row kind m b q ≡ row_at kind m b i p v f
unfolding row_at
row_made kind i m b p v f q e = ap (in_row kind m b) e
