-- The choice of the way in which the field of a prism, or of a piece of one, is taken: `piece_of`. Outside the prism it is a Gauss-Legendre cubature, where that is
-- affordable; else it is the corner sums, unless the station is outside, the prism is long and the sums are too rough: then the prism is to be bisected, which crate
-- prism does with the two halves given here. The formulas are those of the Rust's `prism`, with its roundings, but for `first_longest`, which document 02 has. p is the
-- station; lo and hi are the corners min and max. Definitions only.
use Rattle.std.specs.Prelude.{ℕ, ◌+◌, ◌*◌, Bool, cond, ◌&&◌, leb, pos, Float}
use Rattle.std.specs.Float.{binary64}
use Rattle.std.specs.Float.Ieee.{neg, lt, le, of_int}
use Rattle.doubles.specs.Rounded.{◌⊕◌, ◌⊖◌, ◌⊗◌, ◌⊘◌}
use Rattle.doubles.specs.Constants.{0·0, -0·0, 0·5, 2·0, 10⁻¹³, ε, +∞, π/2}
use Rattle.doubles.specs.Magnitude.{abs, max, min}
use Rattle.roots.specs.Root.{Root}
use Rattle.carlson.specs.Logarithm.{ln}
use Rattle.legendre.specs.GaussLegendre.{max_order}
use Rattle.newtonian.specs.Fold.{Fold}
use Rattle.newtonian.specs.declared.Vector.{Vector}
use Rattle.prism_corner_sums.specs.CornerSums.{upper_x, upper_y, upper_z, corner_sums}
use Rattle.prism_cubature.specs.Cubature.{half_widths, cubature}
use Rattle.prism_pieces.specs.declared.AxisRule.{AxisRule}
use Rattle.prism_pieces.specs.declared.AxisRule.TheVariants.{LastOfEquals, FirstOfEquals}
use Rattle.prism_pieces.specs.declared.Axis.{Axis}
use Rattle.prism_pieces.specs.declared.Axis.TheVariants.{X, Y, Z}
use Rattle.prism_pieces.specs.declared.Piece.{Piece}
use Rattle.prism_pieces.specs.declared.Piece.TheVariants.{Whole, Halves}

-- a sum of three as the Rust's `.sum()` rounds it
abbrev pub sum3 : Float → Float → Float → Float
sum3 a b c = -0·0 ⊕ a ⊕ b ⊕ c

-- ---- the distance from the prism

-- how far p lies outside of lo to hi on an axis, squared
unfoldable pub squared_outside : Float → Float → Float → Float
squared_outside p lo hi = let d = max (max (lo ⊖ p) (p ⊖ hi)) 0·0 in d ⊗ d

-- 0 inside and on the faces, and also so near outside (some 10⁻¹⁶²) that the square underflows
unfoldable pub distance : Vector → Vector → Vector → Float
distance p lo hi =
    Root (sum3 (squared_outside p.x lo.x hi.x) (squared_outside p.y lo.y hi.y) (squared_outside p.z lo.z hi.z))

-- ---- the orders of the cubature

-- ⌈x⌉, but at least 1, and `max_order` + 1 for all that is above `max_order`: one more than how many of 1, 2, .., `max_order` lie below x (`ceiling-kept` in ChoiceLaws). A NaN gives
-- 1, as the Rust's `max(1.0)` passes over it.
abbrev pub count_below : Float → ℕ → ℕ → ℕ
count_below x i n = cond (lt (of_int binary64 (pos (i + 1))) x) (n + 1) n

unfoldable pub ceiling : Float → ℕ
ceiling x = Fold max_order (count_below x) 1

-- the parameter of the Bernstein ellipse of the half-width h at the distance d
abbrev pub ρ : Float → Float → Float
ρ d h = (d ⊕ Root (d ⊗ d ⊕ h ⊗ h)) ⊘ h

-- the order n that brings the remainder ρ⁻²ⁿ to ε
unfoldable pub axis_order : Float → Float → ℕ
axis_order d h = ceiling (neg (ln ε) ⊘ (2·0 ⊗ ln (ρ d h)))

-- document 01: the points of a cubature, in all
abbrev pub max_points : ℕ
max_points = 512

unfoldable pub affordable : ℕ → ℕ → ℕ → Bool
affordable l m n = leb l max_order && (leb m max_order && (leb n max_order && leb (l * m * n) max_points))

-- ---- the longest and the shortest axis

-- document 01: the axis of the largest half-width, and of equal ones the last
unfoldable pub last_longest : Vector → Axis
last_longest h = cond (le h.x h.y) (cond (le h.y h.z) Z Y) (cond (le h.x h.z) Z X)

-- document 02, order 4: the axis of the largest half-width, and of equal ones the first
unfoldable pub first_longest : Vector → Axis
first_longest h = cond (le h.y h.x) (cond (le h.z h.x) X Z) (cond (le h.z h.y) Y Z)

-- the axis of the largest half-width, by a rule for equal ones (`longest-is` in ChoiceLaws)
unfoldable pub longest : AxisRule → Vector → Axis
longest LastOfEquals h = last_longest h
longest FirstOfEquals h = first_longest h

unfoldable pub shortest : Vector → Float
shortest h = min (min (min +∞ h.x) h.y) h.z

-- a vector's entry along an axis
unfoldable pub along : Axis → Vector → Float
along X v = v.x
along Y v = v.y
along Z v = v.z

-- the vector v with t along an axis
unfoldable pub with : Axis → Float → Vector → Vector
with X t v = record { x = t; y = v.y; z = v.z }
with Y t v = record { x = v.x; y = t; z = v.z }
with Z t v = record { x = v.x; y = v.y; z = t }

-- ---- the corner sums' error

-- the distance of the corner k, numbered as in the corner sums
unfoldable pub corner_distance : Vector → Vector → Vector → ℕ → Float
corner_distance p lo hi k =
    let x = cond (upper_x k) hi.x lo.x ⊖ p.x in
    let y = cond (upper_y k) hi.y lo.y ⊖ p.y in
    let z = cond (upper_z k) hi.z lo.z ⊖ p.z in
    Root (sum3 (x ⊗ x) (y ⊗ y) (z ⊗ z))

abbrev pub farther_corner : Vector → Vector → Vector → ℕ → Float → Float
farther_corner p lo hi k m = max m (corner_distance p lo hi k)

-- the distance of the farthest corner
unfoldable pub farthest_corner : Vector → Vector → Vector → Float
farthest_corner p lo hi = Fold 8 (farther_corner p lo hi) 0·0

-- the relative error that the corner sums may have
abbrev pub TOL : Float
TOL = 10⁻¹³

-- the corner sums are too rough: their error ε R² (π/2 + |ln R|), R the farthest corner's distance, is above TOL of the potential v
unfoldable pub too_rough : Float → Float → Bool
too_rough R v = lt (TOL ⊗ abs v) (ε ⊗ R ⊗ R ⊗ (π/2 ⊕ abs (ln R)))

-- ---- a piece

-- cut in the middle of the axis a, into the lower and the upper half
unfoldable pub bisected : Axis → Vector → Vector → Piece
bisected a lo hi =
    let mid = 0·5 ⊗ (along a lo ⊕ along a hi) in
    Halves (record { lo = lo; hi = with a mid hi }) (record { lo = with a mid lo; hi = hi })

-- the piece where p is outside, and the cubature not affordable; h are the half-widths
unfoldable pub piece_near : AxisRule → Vector → Vector → Vector → Vector → Piece
piece_near rule p lo hi h =
    let s = corner_sums p lo hi in
    let a = longest rule h in
    cond (lt (2·0 ⊗ shortest h) (along a h) && too_rough (farthest_corner p lo hi) s.potential) (bisected a lo hi) (Whole s)

-- the piece where p is outside, at the distance d
unfoldable pub piece_outside : AxisRule → Float → Vector → Vector → Vector → Piece
piece_outside rule d p lo hi =
    let h = half_widths lo hi in
    let l = axis_order d h.x in
    let m = axis_order d h.y in
    let n = axis_order d h.z in
    cond (affordable l m n) (Whole (cubature p lo hi l m n)) (piece_near rule p lo hi h)

-- the field of the prism as a whole, or its halves
unfoldable pub piece_of : AxisRule → Vector → Vector → Vector → Piece
piece_of rule p lo hi =
    let d = distance p lo hi in
    cond (lt 0·0 d) (piece_outside rule d p lo hi) (Whole (corner_sums p lo hi))
