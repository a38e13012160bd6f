-- Where both rules for the longest axis give one field. Assumes nothing. States:
-- `prism_at-no_ties`: where every piece that is bisected has one longest side (`NoTies`), the field, or refusal 10, is the same by both rules.
use Rattle.std.specs.Prelude.{◌≡◌, ◌⊎◌, Bool, true, false, cond, ◌&&◌, ℕ, zero, suc, Float}
use Rattle.std.proofs.Math.Path.{refl, sym, ap}
use Rattle.std.proofs.Common.{ap₂, ◌∙◌, inl, inr, ⊎_elim}
use Rattle.std.specs.Prelude.{Err}
use Rattle.std.specs.Float.Ieee.{lt}
use Rattle.doubles.specs.Rounded.{◌⊗◌}
use Rattle.doubles.specs.Constants.{0·0, 2·0}
use Rattle.refusals.specs.Answer.{Answer}
use Rattle.refusals.specs.declared.Refusal.TheVariants.{TooDeep}
use Rattle.newtonian.specs.declared.Vector.{Vector}
use Rattle.newtonian.specs.declared.Newtonian.{Newtonian}
use Rattle.prism_corner_sums.specs.declared.Bounds.{Bounds}
use Rattle.prism_corner_sums.specs.CornerSums.{corner_sums}
use Rattle.prism_cubature.specs.Cubature.{half_widths, cubature}
use Rattle.prism_pieces.specs.declared.AxisRule.{AxisRule}
use Rattle.prism_pieces.specs.declared.Axis.{Axis}
use Rattle.prism_pieces.specs.declared.Piece.{Piece}
use Rattle.prism_pieces.specs.declared.Piece.TheVariants.{Whole, Halves}
use Rattle.prism_pieces.specs.Choice.{distance, axis_order, affordable, longest, shortest, along, farthest_corner, too_rough, bisected, piece_near, piece_outside, piece_of}
use Rattle.prism_pieces.specs.ChoiceLaws.{StrictlyLongest, no-tie}
use Rattle.prism.specs.Prism.{join, field_or, pieces, max_bisections, prism_at}

-- ---- what is stated

-- one axis of the half-widths h is longer than both others
pub record OneLongest (h : Vector) : Type 0 where
  pub axis : Axis
  pub strictly : StrictlyLongest h axis

-- where the piece from lo to hi is bisected by either rule, it has one longest axis, and `next` holds of its halves
abbrev pub NoTie : Vector → Vector → Vector → (Bounds → Bounds → Type 0) → Type 0
NoTie p lo hi next = (rule : AxisRule) (lower upper : Bounds) → piece_of rule p lo hi ≡ Halves lower upper → OneLongest (half_widths lo hi) × next lower upper

-- that holds of the prism from lo to hi and of each piece that either rule comes to with at most n bisections
unfoldable pub NoTies : ℕ → Vector → Vector → Vector → Type 0
NoTies zero p lo hi = NoTie p lo hi (λ lower upper. Unit {0})
NoTies (suc n) p lo hi = NoTie p lo hi (λ lower upper. NoTies n p lower.lo lower.hi × NoTies n p upper.lo upper.hi)

-- ---- a piece

record Halved (q : Piece) : Type 0 where
  lower : Bounds
  upper : Bounds
  is : q ≡ Halves lower upper

halves : (l u : Bounds) → Halved (Halves l u)
halves l u = record { lower = l; upper = u; is = refl }

-- a piece by its tests: outside, the cubature affordable, to be bisected across the axis a
abbrev by_tests : Bool → Bool → Newtonian → Newtonian → Vector → Vector → Bool → Axis → Piece
by_tests outside cheap f s lo hi long a = cond outside (cond cheap (Whole f) (cond long (bisected a lo hi) (Whole s))) (Whole s)

whole_or_halved : (outside cheap : Bool) (f s : Newtonian) (lo hi : Vector) (long : Bool) (a : Axis)
    → (by_tests outside cheap f s lo hi long a ≡ Whole (cond outside (cond cheap f s) s)) ⊎ Halved (by_tests outside cheap f s lo hi long a)
unfolding bisected
whole_or_halved false cheap f s lo hi long a = inl refl
whole_or_halved true true f s lo hi long a = inl refl
whole_or_halved true false f s lo hi false a = inl refl
whole_or_halved true false f s lo hi true a = inr (halves _ _)

module _ (p lo hi : Vector) (rule other : AxisRule) where
  abbrev h : Vector
  h = half_widths lo hi

  abbrev d : Float
  d = distance p lo hi

  abbrev l : ℕ
  l = axis_order d h.x

  abbrev m : ℕ
  m = axis_order d h.y

  abbrev n : ℕ
  n = axis_order d h.z

  abbrev s : Newtonian
  s = corner_sums p lo hi

  -- whether the piece is to be bisected, where a is taken for its longest axis
  abbrev long : Axis → Bool
  long a = lt (2·0 ⊗ shortest h) (along a h) && too_rough (farthest_corner p lo hi) s.potential

  abbrev along_axis : Axis → Piece
  along_axis a = by_tests (lt 0·0 d) (affordable l m n) (cubature p lo hi l m n) s lo hi (long a) a

  by_axis : (r : AxisRule) → piece_of r p lo hi ≡ along_axis (longest r h)
  unfolding piece_of piece_outside piece_near
  by_axis r = refl

  same_longest : OneLongest h → longest rule h ≡ longest other h
  same_longest o = no-tie h o.axis o.strictly rule ∙ sym (no-tie h o.axis o.strictly other)

  same_piece : (next : Bounds → Bounds → Type 0) → NoTie p lo hi next → piece_of rule p lo hi ≡ piece_of other p lo hi
  same_piece next t =
      let shape = λ (a : Axis). whole_or_halved (lt 0·0 d) (affordable l m n) (cubature p lo hi l m n) s lo hi (long a) a in
      ⊎_elim (λ v. ⊎_elim (λ w. by_axis rule ∙ v ∙ sym w ∙ sym (by_axis other)) (halved other) (shape (longest other h))) (halved rule) (shape (longest rule h))
    where
      halved : (r : AxisRule) → Halved (along_axis (longest r h)) → piece_of rule p lo hi ≡ piece_of other p lo hi
      halved r k = by_axis rule ∙ ap along_axis (same_longest (t r k.lower k.upper (by_axis r ∙ k.is)).0) ∙ sym (by_axis other)

-- ---- the prism

same_halves : (q : Piece) (f g : Bounds → Bounds → Answer Newtonian) → ((l u : Bounds) → q ≡ Halves l u → f l u ≡ g l u) → field_or q f ≡ field_or q g
same_halves (Whole a) f g e = refl
same_halves (Halves l u) f g e = e l u refl

same_pieces : (rule other : AxisRule) (i n : ℕ) (p lo hi : Vector) → NoTies n p lo hi → pieces rule i n p lo hi ≡ pieces other i n p lo hi
unfolding pieces NoTies
same_pieces rule other i zero p lo hi t =
    ap (λ (q : Piece). field_or q (λ l u. Err (TooDeep i))) (same_piece p lo hi rule other (λ l u. Unit {0}) t)
same_pieces rule other i (suc n) p lo hi t =
    same_halves (piece_of rule p lo hi) (λ l u. join (pieces rule i n p l.lo l.hi) (pieces rule i n p u.lo u.hi))
    (λ l u. join (pieces other i n p l.lo l.hi) (pieces other i n p u.lo u.hi))
    (λ l u e.
    let x = (t rule l u e).1 in
    ap₂ join (same_pieces rule other i n p l.lo l.hi x.0) (same_pieces rule other i n p u.lo u.hi x.1))
    ∙ ap (λ (q : Piece). field_or q (λ l u. join (pieces other i n p l.lo l.hi) (pieces other i n p u.lo u.hi)))
    (same_piece p lo hi rule other (λ l u. NoTies n p l.lo l.hi × NoTies n p u.lo u.hi) t)

pub prism_at-no_ties : (i : ℕ) (p lo hi : Vector) → NoTies max_bisections p lo hi → (rule other : AxisRule) → prism_at rule i p lo hi ≡ prism_at other i p lo hi
unfolding prism_at
prism_at-no_ties i p lo hi t rule other = same_pieces rule other i max_bisections p lo hi t
