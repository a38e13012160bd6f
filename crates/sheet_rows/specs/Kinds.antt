-- The kinds of a sheet as document 01 has them, what each decides of a row, and the limits on a sheet's counts. Definitions only.
use Rattle.std.specs.Prelude.{Bool, ◌&&◌, ◌||◌, ℕ, eqb, leb, Float}
use Rattle.mesh_orders.specs.Edges.{max_vertices, max_faces, max_stations}
use Rattle.prism_pieces.specs.declared.AxisRule.{AxisRule}
use Rattle.prism_pieces.specs.declared.AxisRule.TheVariants.{LastOfEquals}
use Rattle.anomaly.specs.Body.{μ₀/4π}

abbrev pub mesh_kind : ℕ
mesh_kind = 1

abbrev pub prism_kind : ℕ
prism_kind = 2

unfoldable pub is_mesh : ℕ → Bool
is_mesh kind = eqb kind mesh_kind

unfoldable pub is_prism : ℕ → Bool
is_prism kind = eqb kind prism_kind

-- of v vertices and f faces: a mesh; or a prism, with two vertices, min and max, and no faces
unfoldable pub known_kind : ℕ → ℕ → ℕ → Bool
known_kind kind v f = is_mesh kind || (is_prism kind && (eqb v 2 && eqb f 0))

-- ---- what a kind decides

-- V, three gradient parts, three of the magnetic field, and the total field's anomaly
abbrev pub plain_width : ℕ
plain_width = 8

-- how many numbers a row has, each of 8 bytes
abbrev pub row_width : ℕ → ℕ
row_width kind = plain_width

-- no kind has more
abbrev pub max_width : ℕ
max_width = plain_width

-- of equal longest sides, the one that a prism is halved across: the last for both kinds, since printed sheets of kind 2 were made so and must go on being accepted
-- (`prism` itself takes the first)
unfoldable pub axis_rule : ℕ → AxisRule
axis_rule kind = LastOfEquals

unfoldable pub magnetic_constant : ℕ → Float
magnetic_constant kind = μ₀/4π

-- ---- the counts

-- v vertices, f faces and s stations
unfoldable pub within_counts : ℕ → ℕ → ℕ → Bool
within_counts v f s = leb v max_vertices && (leb f max_faces && leb s max_stations)
