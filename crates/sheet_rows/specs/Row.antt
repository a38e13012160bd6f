-- The row of a station, as document 01 says it: V, three gradient parts, three of `body` of the Hessian and magnetisation, and `total_field` of the ambient field and
-- those three. The magnetic constant and the rule for the longest axis go by the sheet's kind. `v` is the vertex list and `f` the face list. Definitions only.
use Rattle.std.specs.Prelude.{Bool, true, ◌&&◌, cond, List, [], ◌∷◌, ℕ, Float}
use Rattle.std.specs.Float.Ieee.Scale.{finite}
use Rattle.std.specs.Prelude.{Ok, Err}
use Rattle.refusals.specs.Answer.{Answer}
use Rattle.refusals.specs.Causes.{Cause}
use Rattle.refusals.specs.Causes.{unless}
use Rattle.refusals.specs.declared.Refusal.TheVariants.{NotFinite}
use Rattle.newtonian.specs.declared.Vector.{Vector}
use Rattle.newtonian.specs.declared.Newtonian.{Newtonian}
use Rattle.mesh.specs.Surface.{vertex}
use Rattle.prism.specs.Prism.{prism_at}
use Rattle.polyhedron.specs.Polyhedron.{polyhedron_at}
use Rattle.anomaly.specs.Body.{body_of}
use Rattle.anomaly.specs.TotalField.{total_field_of}
use Rattle.sheet_rows.specs.declared.Row.{Row}
use Rattle.sheet_rows.specs.Kinds.{is_mesh, axis_rule, magnetic_constant}

-- ---- the row

-- the field at the station p of number i: of a mesh the polyhedron's, otherwise that of the prism from vertex 0 to vertex 1 (cause 1 leaves no third kind)
unfoldable pub field_at : ℕ → ℕ → Vector → List Float → List ℕ → Answer Newtonian
field_at kind i p v f = cond (is_mesh kind) (polyhedron_at i p v f) (prism_at (axis_rule kind) i p (vertex v 0) (vertex v 1))

-- a field with the magnetisation m, in the ambient field b
unfoldable pub row_from : ℕ → Vector → Vector → Newtonian → Row
row_from kind m b g =
    let anomaly = body_of (magnetic_constant kind) g.hessian m in
    record { field = g; anomaly = anomaly; total = total_field_of b anomaly }

abbrev pub in_row : ℕ → Vector → Vector → Answer Newtonian → Answer Row
in_row kind m b (Ok g) = Ok (row_from kind m b g)
in_row kind m b (Err r) = Err r

-- the row, or the field's refusal, which is 10 or 11
unfoldable pub row_at : ℕ → Vector → Vector → ℕ → Vector → List Float → List ℕ → Answer Row
row_at kind m b i p v f = in_row kind m b (field_at kind i p v f)

-- the numbers that the sheet holds of it
unfoldable pub row_numbers : ℕ → Row → List Float
row_numbers kind r =
    let g = r.field.gradient in
    let B = r.anomaly in
    r.field.potential ∷ g.x ∷ g.y ∷ g.z ∷ B.x ∷ B.y ∷ B.z ∷ r.total ∷ []

-- ---- 10 or 11, then 13

abbrev pub all_finite : List Float → Bool
all_finite [] = true
all_finite (x ∷ xs) = finite x && all_finite xs

unfoldable pub is_finite_row : ℕ → Row → Bool
is_finite_row kind r = all_finite (row_numbers kind r)

unfoldable pub row_cause : ℕ → ℕ → Answer Row → Cause
row_cause kind i (Err r) = Err r
row_cause kind i (Ok r) = unless (is_finite_row kind r) (NotFinite i)
