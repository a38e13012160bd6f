-- The potential and the gradient that the definitions give are doubles, since their last operation is rounded: `field_at_fits`, at the end. Assumes nothing.
use Rattle.std.specs.Prelude.{◌≡◌, refl, Bool, true, false, cond, ◌&&◌, List, ℕ, zero, suc, T, leb, length, Float}
use Rattle.std.proofs.Common.{subst, arith}
use Rattle.std.specs.Float.{binary64}
use Rattle.std.specs.Float.Ieee.{fits, lt}
use Rattle.std.specs.Float.Ieee.Scale.{finite}
use Rattle.std.specs.Float.Ieee.Fits.{add-fits, sub-fits}
use Rattle.std.specs.Float.Ieee.Bits.{of_bits-fits}
use Rattle.doubles.specs.Rounded.{◌⊗◌}
use Rattle.doubles.specs.Constants.{0·0, 2·0}
use Rattle.std.specs.Prelude.{Ok, Err}
use Rattle.refusals.specs.Answer.{Answer}
use Rattle.refusals.specs.declared.Refusal.{Refusal}
use Rattle.refusals.specs.declared.Refusal.TheVariants.{TooDeep, TooManyEdges}
use Rattle.newtonian.specs.declared.Vector.{Vector}
use Rattle.newtonian.specs.declared.Newtonian.{Newtonian}
use Rattle.newtonian.specs.Fold.{Fold}
use Rattle.newtonian.specs.Vectors.{add_fields, zero_field}
use Rattle.legendre.specs.GaussLegendre.{node, weight}
use Rattle.prism_corner_sums.specs.declared.Bounds.{Bounds}
use Rattle.prism_corner_sums.specs.CornerSums.{add_corner_terms, add_corner, corner_sums}
use Rattle.newtonian.specs.Point.{add_point}
use Rattle.prism_cubature.specs.Cubature.{half_widths, offset, point, line, layer, cubature}
use Rattle.mesh.specs.Surface.{face_count, vertex}
use Rattle.polyhedron_neumaier.specs.Neumaier.{total_at, total_vector, totals}
use Rattle.polyhedron_tetrahedra.specs.Tetrahedra.{tetrahedra}
use Rattle.polyhedron_on_edge.specs.OnEdge.{edge_limit}
use Rattle.polyhedron_edge_terms.specs.EdgeTerms.{logarithm, add_face_terms, add_edge_terms}
use Rattle.polyhedron_edge_terms.specs.declared.Corner.{Corner}
use Rattle.polyhedron_edge_terms.specs.declared.Side.{Side}
use Rattle.polyhedron_edge_face_sums.specs.declared.Triangle.{Triangle}
use Rattle.polyhedron_edge_face_sums.specs.EdgeFaceSums.{Sums, no_faces, triangle_of, add_side, add_triangle, sums_of, field_of, edge_face_sums}
use Rattle.polyhedron_centroid.specs.Centroid.{centroid, radius}
use Rattle.polyhedron.specs.Polyhedron.{is_far, polyhedron_from, polyhedron_at}
use Rattle.sheet_rows.specs.Kinds.{is_mesh, axis_rule}
use Rattle.sheet_rows.specs.Row.{field_at}
use Rattle.prism_pieces.specs.declared.AxisRule.{AxisRule}
use Rattle.prism_pieces.specs.declared.Piece.{Piece}
use Rattle.prism_pieces.specs.declared.Piece.TheVariants.{Whole, Halves}
use Rattle.prism_pieces.specs.declared.Axis.{Axis}
use Rattle.prism_pieces.specs.Choice.{distance, axis_order, affordable, longest, shortest, along, farthest_corner, too_rough, bisected, piece_near, piece_outside, piece_of}
use Rattle.prism.specs.Prism.{join, field_or, pieces, max_bisections, prism_at}

pub record FieldFits (g : Newtonian) : Type 0 where
  pub potential : T (fits binary64 g.potential)
  pub x : T (fits binary64 g.gradient.x)
  pub y : T (fits binary64 g.gradient.y)
  pub z : T (fits binary64 g.gradient.z)

-- what every step keeps, a loop keeps
pub fold_keeps : {A : Type 0} (P : A → Type 0) (n : ℕ) (step : ℕ → A → A) (a : A) → P a → ((k : ℕ) (x : A) → P x → P (step k x)) → P (Fold n step a)
unfolding Fold
fold_keeps P zero step a p h = p
fold_keeps P (suc n) step a p h = h n (Fold n step a) (fold_keeps P n step a p h)

zero_fits : FieldFits zero_field
unfolding zero_field
zero_fits = let z = of_bits-fits binary64 0 in record { potential = z; x = z; y = z; z = z }

add_fields-fit : (f g : Newtonian) → FieldFits (add_fields f g)
unfolding add_fields
add_fields-fit f g = record { potential = add-fits binary64 _ _; x = add-fits binary64 _ _; y = add-fits binary64 _ _; z = add-fits binary64 _ _ }

-- ---- the prism

corner_sums-fit : (p lo hi : Vector) → FieldFits (corner_sums p lo hi)
unfolding corner_sums add_corner_terms
corner_sums-fit p lo hi =
    fold_keeps FieldFits 8 (add_corner p lo hi) zero_field zero_fits
    (λ k x q. record { potential = add-fits binary64 _ _; x = sub-fits binary64 _ _; y = sub-fits binary64 _ _; z = sub-fits binary64 _ _ })

point_fits : (w : Float) (d : Vector) (g : Newtonian) → FieldFits (add_point w d g)
unfolding add_point
point_fits w d g = record { potential = add-fits binary64 _ _; x = add-fits binary64 _ _; y = add-fits binary64 _ _; z = add-fits binary64 _ _ }

cubature_fits : (p lo hi : Vector) (l m n : ℕ) → FieldFits (cubature p lo hi l m n)
unfolding cubature
cubature_fits p lo hi l m n = fold_keeps FieldFits l (layer p lo hi l m n) zero_field zero_fits layers
  where
    lines : (w x y : Float) (g : Newtonian) → FieldFits g → FieldFits (Fold n (point p lo hi n w x y) g)
    lines w x y g q = fold_keeps FieldFits n (point p lo hi n w x y) g q (λ k u r. point_fits _ _ u)

    layers : (i : ℕ) (g : Newtonian) → FieldFits g → FieldFits (layer p lo hi l m n i g)
    layers i g q =
        fold_keeps FieldFits m (line p lo hi m n (weight l i) (offset p.x lo.x hi.x (half_widths lo hi).x (node l i))) g q (λ j u r. lines _ _ _ u r)

-- what a piece has of a field
abbrev PieceFits : Piece → Type 0
PieceFits q = (g : Newtonian) → q ≡ Whole g → FieldFits g

whole_fits : (g : Newtonian) → FieldFits g → PieceFits (Whole g)
whole_fits g h f e = subst FieldFits (let z : g ≡ f = cc in z) h

halves_fit : (l u : Bounds) → PieceFits (Halves l u)
halves_fit l u f e = absurd (let z : ◌≡◌ {A = ℕ} 0 1 = cc in omega arith)

either : (b : Bool) (x y : Piece) → PieceFits x → PieceFits y → PieceFits (cond b x y)
either true x y p q = p
either false x y p q = q

sums_fit : (p lo hi : Vector) → PieceFits (Whole (corner_sums p lo hi))
sums_fit p lo hi = whole_fits (corner_sums p lo hi) (corner_sums-fit p lo hi)

bisected_fits : (a : Axis) (lo hi : Vector) → PieceFits (bisected a lo hi)
unfolding bisected
bisected_fits a lo hi = halves_fit _ _

near_fits : (rule : AxisRule) (p lo hi h : Vector) → PieceFits (piece_near rule p lo hi h)
unfolding piece_near
near_fits rule p lo hi h =
    let a = longest rule h in
    let s = corner_sums p lo hi in
    let rough = too_rough (farthest_corner p lo hi) s.potential in
    either (lt (2·0 ⊗ shortest h) (along a h) && rough) (bisected a lo hi) (Whole s) (bisected_fits a lo hi) (sums_fit p lo hi)

outside_fits : (rule : AxisRule) (d : Float) (p lo hi : Vector) → PieceFits (piece_outside rule d p lo hi)
unfolding piece_outside
outside_fits rule d p lo hi =
    let h = half_widths lo hi in
    let l = axis_order d h.x in
    let m = axis_order d h.y in
    let n = axis_order d h.z in
    either (affordable l m n) (Whole (cubature p lo hi l m n)) (piece_near rule p lo hi h) (whole_fits (cubature p lo hi l m n) (cubature_fits p lo hi l m n))
    (near_fits rule p lo hi h)

piece_fits : (rule : AxisRule) (p lo hi : Vector) → PieceFits (piece_of rule p lo hi)
unfolding piece_of
piece_fits rule p lo hi =
    let d = distance p lo hi in
    either (lt 0·0 d) (piece_outside rule d p lo hi) (Whole (corner_sums p lo hi)) (outside_fits rule d p lo hi) (sums_fit p lo hi)

-- what an answer has of a field
abbrev pub AnswerFits : Answer Newtonian → Type 0
AnswerFits a = (g : Newtonian) → a ≡ Ok g → FieldFits g

pub value_fits : (g : Newtonian) → FieldFits g → AnswerFits (Ok g)
value_fits g h f e = subst FieldFits (let z : g ≡ f = cc in z) h

pub refused_fits : (r : Refusal) → AnswerFits (Err r)
refused_fits r f e = absurd (let z : ◌≡◌ {A = ℕ} 0 1 = cc in omega arith)

join_fits : (a b : Answer Newtonian) → AnswerFits (join a b)
unfolding join
join_fits (Err r) b = refused_fits r
join_fits (Ok f) (Err r) = refused_fits r
join_fits (Ok f) (Ok g) = value_fits (add_fields f g) (add_fields-fit f g)

of_piece : (q : Piece) (halves : Bounds → Bounds → Answer Newtonian) → PieceFits q → ((l u : Bounds) → AnswerFits (halves l u)) → AnswerFits (field_or q halves)
of_piece (Whole g) halves p h = value_fits g (p g refl)
of_piece (Halves l u) halves p h = h l u

pieces-fit : (rule : AxisRule) (i n : ℕ) (p lo hi : Vector) → AnswerFits (pieces rule i n p lo hi)
unfolding pieces
pieces-fit rule i zero p lo hi = of_piece (piece_of rule p lo hi) (λ l u. Err (TooDeep i)) (piece_fits rule p lo hi) (λ l u. refused_fits (TooDeep i))
pieces-fit rule i (suc n) p lo hi =
    of_piece (piece_of rule p lo hi) (λ l u. join (pieces rule i n p l.lo l.hi) (pieces rule i n p u.lo u.hi)) (piece_fits rule p lo hi)
    (λ l u. join_fits (pieces rule i n p l.lo l.hi) (pieces rule i n p u.lo u.hi))

prism_fits : (rule : AxisRule) (i : ℕ) (p lo hi : Vector) → AnswerFits (prism_at rule i p lo hi)
unfolding prism_at
prism_fits rule i p lo hi = pieces-fit rule i max_bisections p lo hi

-- ---- the polyhedron

chosen_fits : (b : Bool) (x y : Answer Newtonian) → AnswerFits x → AnswerFits y → AnswerFits (cond b x y)
chosen_fits true x y p q = p
chosen_fits false x y p q = q

tetrahedra-fit : (p a : Vector) (v : List Float) (f : List ℕ) → FieldFits (tetrahedra p a v f)
unfolding tetrahedra totals total_vector total_at
tetrahedra-fit p a v f = record { potential = add-fits binary64 _ _; x = add-fits binary64 _ _; y = add-fits binary64 _ _; z = add-fits binary64 _ _ }

face_fits : (n : Vector) (ρ ω : Float) (g : Newtonian) → FieldFits (add_face_terms n ρ ω g)
unfolding add_face_terms
face_fits n ρ ω g = record { potential = sub-fits binary64 _ _; x = add-fits binary64 _ _; y = add-fits binary64 _ _; z = add-fits binary64 _ _ }

edge_fits : (n m : Vector) (L : Float) (r : Vector) (g : Newtonian) → FieldFits (add_edge_terms n m L r g)
unfolding add_edge_terms
edge_fits n m L r g = record { potential = add-fits binary64 _ _; x = sub-fits binary64 _ _; y = sub-fits binary64 _ _; z = sub-fits binary64 _ _ }

abbrev SumsFit : Sums → Type 0
SumsFit s = FieldFits s.field

either_sums : (b : Bool) (x y : Sums) → SumsFit x → SumsFit y → SumsFit (cond b x y)
either_sums true x y p q = p
either_sums false x y p q = q

side_fits : (n : Vector) (e : Side) (a b : Corner) (s : Sums) → SumsFit s → SumsFit (add_side n e a b s)
unfolding add_side
side_fits n e a b s q = either_sums (finite (logarithm a b e.length)) _ _ (edge_fits n e.normal (logarithm a b e.length) a.r s.field) q

triangle_fits : (p : Vector) (t : Triangle) (s : Sums) → SumsFit (add_triangle p t s)
unfolding add_triangle
triangle_fits p t s = side_fits _ _ _ _ _ (side_fits _ _ _ _ _ (side_fits _ _ _ _ _ (face_fits _ _ _ _)))

sums_of-fit : (p : Vector) (v : List Float) (f : List ℕ) → SumsFit (sums_of p v f)
unfolding sums_of
sums_of-fit p v f = fold_keeps SumsFit (face_count f) (λ k. add_triangle p (triangle_of v f k)) no_faces zero_fits (λ k s q. triangle_fits p (triangle_of v f k) s)

edge_face_sums-fit : (i : ℕ) (p : Vector) (v : List Float) (f : List ℕ) → AnswerFits (edge_face_sums i p v f)
unfolding edge_face_sums field_of
edge_face_sums-fit i p v f =
    let q = sums_of-fit p v f in
    chosen_fits (leb (length (sums_of p v f).edges) edge_limit) (Ok (field_of (sums_of p v f))) (Err (TooManyEdges i))
    (value_fits (field_of (sums_of p v f)) (record { potential = q.potential; x = q.x; y = q.y; z = q.z })) (refused_fits (TooManyEdges i))

polyhedron_fits : (i : ℕ) (p : Vector) (v : List Float) (f : List ℕ) → AnswerFits (polyhedron_at i p v f)
unfolding polyhedron_at polyhedron_from
polyhedron_fits i p v f =
    let c = centroid v f in
    chosen_fits (is_far p c (radius c v f)) (Ok (tetrahedra p c v f)) (edge_face_sums i p v f) (value_fits (tetrahedra p c v f) (tetrahedra-fit p c v f)) (edge_face_sums-fit i p v f)

-- ---- the field of a sheet's row

pub field_at_fits : (kind i : ℕ) (p : Vector) (v : List Float) (f : List ℕ) (g : Newtonian) → field_at kind i p v f ≡ Ok g → FieldFits g
unfolding field_at
field_at_fits kind i p v f =
    chosen_fits (is_mesh kind) (polyhedron_at i p v f) (prism_at (axis_rule kind) i p (vertex v 0) (vertex v 1)) (polyhedron_fits i p v f)
    (prism_fits (axis_rule kind) i p (vertex v 0) (vertex v 1))
