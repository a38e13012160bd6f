-- The solid angle ω_f that a triangle subtends at the station, by the formula of Van Oosterom & Strackee (1983),
--
--   tan(ω/2) = r_a·(r_b × r_c) / (l_a l_b l_c + l_a r_b·r_c + l_b r_c·r_a + l_c r_a·r_b)
--
-- with the roundings in the order of the Rust. In the triangle's plane, where the triple product is zero, ω is the limit from outside: minus the angle that the triangle's
-- boundary winds about the station, which is 2π inside, π on an edge, the corner's angle at a vertex, and 0 outside. Definitions only.
use Rattle.std.specs.Prelude.{Bool, ◌&&◌, ◌||◌, cond, Float}
use Rattle.std.specs.Float.Ieee.{neg, lt, eq}
use Rattle.doubles.specs.Rounded.{◌⊕◌, ◌⊗◌}
use Rattle.doubles.specs.Constants.{0·0, -0·0, 2·0}
use Rattle.carlson.specs.Arctangent.{atan2}
use Rattle.newtonian.specs.Vectors.{dot, cross}
use Rattle.newtonian.specs.declared.Vector.{Vector}
use Rattle.polyhedron_edge_terms.specs.declared.Corner.{Corner}

-- an edge with its ends at the distances la and lb passes through the station: an end lies there, or the station lies between the ends
unfoldable pub passes_through : Float → Float → Float → Float → Bool
passes_through la lb sin cos = eq la 0·0 || (eq lb 0·0 || (eq sin 0·0 && lt cos 0·0))

-- in the plane, the angle from a to b about the station. An edge through the station counts for nothing.
unfoldable pub winding_angle : Vector → Corner → Corner → Float
winding_angle n a b =
    let sin = dot (cross a.r b.r) n in
    let cos = dot a.r b.r in
    cond (passes_through a.l b.l sin cos) 0·0 (atan2 sin cos)

-- ω of the triangle with the corners a, b, c and the unit normal n
unfoldable pub solid_angle : Vector → Corner → Corner → Corner → Float
solid_angle n a b c =
    let triple = dot a.r (cross b.r c.r) in
    cond (eq triple 0·0)
    (neg (-0·0 ⊕ winding_angle n a b ⊕ winding_angle n b c ⊕ winding_angle n c a))
    (2·0 ⊗ atan2 triple (a.l ⊗ b.l ⊗ c.l ⊕ a.l ⊗ dot b.r c.r ⊕ b.l ⊗ dot c.r a.r ⊕ c.l ⊗ dot a.r b.r))
