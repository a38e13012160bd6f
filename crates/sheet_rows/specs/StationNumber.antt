-- A row is made from the field at its station, and a station's number shows in a refusal alone, never in the row. Assumes nothing. States:
-- `row_field`: the field at the station is that in the row, and the row is `row_from` it;
-- `field_at-value`, `row_at-value`: the field and the row under one number are those under every other;
-- `row_at-refusal`: what is refused under one number is refused under every other: a mesh by 11, a prism by 10, with that number.
use Rattle.std.specs.Prelude.{◌≡◌, Bool, true, false, cond, List, ℕ, Float}
use Rattle.std.proofs.Common.{sym, ◌∙◌, arith}
use Rattle.std.proofs.Math.Path.{ap}
use Rattle.std.specs.Prelude.{Ok, Err}
use Rattle.refusals.specs.Answer.{Answer}
use Rattle.refusals.specs.declared.Refusal.{Refusal}
use Rattle.refusals.specs.declared.Refusal.TheVariants.{TooDeep, TooManyEdges}
use Rattle.newtonian.specs.declared.Vector.{Vector}
use Rattle.newtonian.specs.declared.Newtonian.{Newtonian}
use Rattle.mesh.specs.Surface.{vertex}
use Rattle.prism.specs.StationNumber.{prism_at-value, prism_at_too_deep}
use Rattle.polyhedron.specs.StationNumber.{polyhedron_at-value, polyhedron_at-too_many}
use Rattle.sheet_rows.specs.declared.Row.{Row}
use Rattle.sheet_rows.specs.Kinds.{is_mesh, axis_rule}
use Rattle.sheet_rows.specs.Row.{field_at, row_from, in_row, row_at}
use Rattle.sheet_rows.specs.RowRefusals.{of_field}

same_row : (x y : Row) → ◌≡◌ {A = Answer Row} (Ok x) (Ok y) → x ≡ y
same_row x y e = cc

from_field : (kind : ℕ) (m b : Vector) (a : Answer Newtonian) (r : Row) → in_row kind m b a ≡ Ok r
    → (a ≡ Ok r.field) × (row_from kind m b r.field ≡ r)
unfolding row_from
from_field kind m b (Ok g) r e =
    let z = same_row (row_from kind m b g) r e in
    (ap {B = Answer Newtonian} Ok (ap (λ (s : Row). s.field) z), ap (λ (s : Row). row_from kind m b s.field) (sym z) ∙ z)
from_field kind m b (Err q) r e = absurd (let z : ◌≡◌ {A = ℕ} 0 1 = cc in omega arith)

by_kind : (t : Bool) {a b c d : Answer Newtonian} (g : Newtonian) → (a ≡ Ok g → c ≡ Ok g) → (b ≡ Ok g → d ≡ Ok g)
    → cond t a b ≡ Ok g → cond t c d ≡ Ok g
by_kind true g h k e = h e
by_kind false g h k e = k e

refused_by-kind : (t : Bool) {a b c d : Answer Newtonian} (r q s : Refusal) → (a ≡ Err r → c ≡ Err q) → (b ≡ Err r → d ≡ Err s)
    → cond t a b ≡ Err r → cond t c d ≡ Err (cond t q s)
refused_by-kind true r q s h k e = h e
refused_by-kind false r q s h k e = k e

module _ (kind : ℕ) (m b : Vector) (i : ℕ) (p : Vector) (v : List Float) (f : List ℕ) where
  pub row_field : (r : Row) → row_at kind m b i p v f ≡ Ok r → (field_at kind i p v f ≡ Ok r.field) × (row_from kind m b r.field ≡ r)
  unfolding row_at
  row_field r e = from_field kind m b (field_at kind i p v f) r e

  pub field_at-value : (j : ℕ) (g : Newtonian) → field_at kind i p v f ≡ Ok g → field_at kind j p v f ≡ Ok g
  unfolding field_at
  field_at-value j g e = by_kind (is_mesh kind) g (polyhedron_at-value i j p v f g) (prism_at-value (axis_rule kind) i j p (vertex v 0) (vertex v 1) g) e

  pub row_at-value : (j : ℕ) (r : Row) → row_at kind m b i p v f ≡ Ok r → row_at kind m b j p v f ≡ Ok r
  unfolding row_at
  row_at-value j r e =
      let h = from_field kind m b (field_at kind i p v f) r e in
      ap (in_row kind m b) (field_at-value j r.field h.0) ∙ ap {B = Answer Row} Ok h.1

  field-refusal : (j : ℕ) (r : Refusal) → field_at kind i p v f ≡ Err r
      → field_at kind j p v f ≡ Err (cond (is_mesh kind) (TooManyEdges j) (TooDeep j))
  unfolding field_at
  field-refusal j r e =
      refused_by-kind (is_mesh kind) r (TooManyEdges j) (TooDeep j) (polyhedron_at-too_many i j p v f r)
      (prism_at_too_deep (axis_rule kind) i j p (vertex v 0) (vertex v 1) r) e

  pub row_at-refusal : (j : ℕ) (r : Refusal) → row_at kind m b i p v f ≡ Err r
      → row_at kind m b j p v f ≡ Err (cond (is_mesh kind) (TooManyEdges j) (TooDeep j))
  unfolding row_at
  row_at-refusal j r e = ap (in_row kind m b) (field-refusal j r (of_field kind m b (field_at kind i p v f) r e))
