-- A row is refused by 10 or 11 with the station's number, and by no other: `row_at-refused`, at the end. Assumes nothing.
use Rattle.std.specs.Prelude.{◌≡◌, Bool, true, false, cond, List, ◌⊎◌, ℕ, Float}
use Rattle.std.proofs.Common.{ap, inl, inr, arith}
use Rattle.std.specs.Prelude.{Ok, Err}
use Rattle.refusals.specs.Answer.{Answer}
use Rattle.refusals.specs.declared.Refusal.{Refusal}
use Rattle.refusals.specs.declared.Refusal.TheVariants.{TooDeep, TooManyEdges}
use Rattle.newtonian.specs.declared.Vector.{Vector}
use Rattle.newtonian.specs.declared.Newtonian.{Newtonian}
use Rattle.mesh.specs.Surface.{vertex}
use Rattle.prism.specs.Prism.{prism_at}
use Rattle.prism.specs.PrismRefusals.{prism_at-refused}
use Rattle.polyhedron.specs.Polyhedron.{polyhedron_at}
use Rattle.polyhedron.specs.PolyhedronLaws.{at-refused}
use Rattle.sheet_rows.specs.Kinds.{is_mesh, axis_rule}
use Rattle.sheet_rows.specs.Row.{field_at, in_row, row_at}

-- a row is refused as its field is
pub of_field : (kind : ℕ) (m b : Vector) (g : Answer Newtonian) (r : Refusal) → in_row kind m b g ≡ Err r → g ≡ Err r
of_field kind m b (Ok g) r e = absurd (let z : ◌≡◌ {A = ℕ} 0 1 = cc in omega arith)
of_field kind m b (Err q) r e = let z : q ≡ r = cc in ap {B = Answer Newtonian} Err z

of_kind : (b : Bool) (g h : Answer Newtonian) (r : Refusal) {q t : Refusal} → (g ≡ Err r → r ≡ q) → (h ≡ Err r → r ≡ t) → cond b g h ≡ Err r → (r ≡ t) ⊎ (r ≡ q)
of_kind true g h r mesh prism e = inr (mesh e)
of_kind false g h r mesh prism e = inl (prism e)

pub row_at-refused : (kind : ℕ) (m b : Vector) (i : ℕ) (p : Vector) (v : List Float) (f : List ℕ) (r : Refusal) → row_at kind m b i p v f ≡ Err r → (r ≡ TooDeep i) ⊎ (r ≡ TooManyEdges i)
unfolding row_at field_at
row_at-refused kind m b i p v f r e =
    of_kind (is_mesh kind) (polyhedron_at i p v f) (prism_at (axis_rule kind) i p (vertex v 0) (vertex v 1)) r (at-refused i p v f r)
    (prism_at-refused (axis_rule kind) i p (vertex v 0) (vertex v 1) r) (of_field kind m b (field_at kind i p v f) r e)
