-- What is said of a tetrahedron's points in four lists, of a `Points`. Definitions only.
use Rattle.std.specs.Prelude.{ℕ, replicate}
use Rattle.doubles.specs.Constants.{0·0}
use Rattle.newtonian.specs.declared.Vector.{Vector}
use Rattle.newtonian.specs.declared.Newtonian.{Newtonian}
use Rattle.polyhedron_tetrahedra.specs.declared.Tetrahedron.{Tetrahedron}
use Rattle.polyhedron_far_points.specs.declared.Points.{Points}
use Rattle.polyhedron_far_points.specs.Tetrahedral.{FirstPoints, point_count, points_field}

-- its first n points are those of the tetrahedron s with the apex a
abbrev pub FirstOf : Vector → Tetrahedron → ℕ → Points → Type 0
FirstOf a s n t = FirstPoints a s n t.x t.y t.z t.w

-- its field at p
abbrev pub field_of : Vector → Points → Newtonian
field_of p t = points_field p t.x t.y t.z t.w

-- all numbers 0
abbrev pub zero_points : Points
zero_points = let o = replicate point_count 0·0 in record { x = o; y = o; z = o; w = o }
