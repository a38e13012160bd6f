-- States: `inner_rj`, at the end: for x, y, z in R_J's domain and p finite and below zero, the inner R_J of Carlson's Eq. 2.23a, at x, y, z in order and p', is the
-- one for p above zero. So `rj_sorted`, which calls that one, is the Rust's recursion. For in the domain the three in order ascend and the middle one is above zero
-- (`ThreeInOrder`), so that p' is above zero, or infinite, or a NaN (`AbovePole`). Assumes nothing.
use Rattle.std.specs.Prelude.{◌≡◌, true, false, zero, suc, ◌+◌, ◌*◌, ◌<◌, T, Float}
use Rattle.std.proofs.Common.{arith, ltb→lt, lt→ltb}
use Rattle.std.specs.Float.{nan, inf, fin, binary64}
use Rattle.std.specs.Float.Ieee.{up, down, neg, sub, lt, fits, of_bits}
use Rattle.std.specs.Float.Ieee.Scale.{finite}
use Rattle.std.specs.Float.Ieee.Positive.{positive, first_pos}
use Rattle.doubles.specs.Rounded.{◌⊖◌}
use Rattle.doubles.specs.Constants.{0·0}
use Rattle.doubles.proofs.FiniteUnsigned.{finite_unsigned_of_positive, cross→le}
use Rattle.doubles.proofs.Signs.{true→T}
use Rattle.special_rj.specs.Rj.{least_of, middle_of, greatest_of, p', rj, rj_above}
use Rattle.special.specs.Domain.{in_domain}
use Rattle.special_laws.specs.AbovePole.{unsigned, sub-unsigned, add-unsigned, Inner, p'-above, inner_of}
use Rattle.special_laws.specs.NotBelowZero.{not_below_zero, ◌≼◌, zero_product, is_positive, under_positive, AtMostOneZero, of_domain}
use Rattle.special_laws.specs.ThreeInOrder.{least-has, middle_has, greatest-has, middle_above, under_greatest, least_under}

diff_unsigned : (y x : Float) → T (positive y) → T (not_below_zero x) → x ≼ y → T (unsigned (y ⊖ x))
unfolding sub neg
diff_unsigned y nan p q h = absurd q
diff_unsigned y (inf s) p q h = absurd q
diff_unsigned y (fin false m e) p q h = let w = finite_unsigned_of_positive y p in sub-unsigned binary64 y (fin false m e) w tt (cross→le (fin false m e) y tt w h)
diff_unsigned y (fin true (suc m) e) p q h = absurd q
diff_unsigned y (fin true zero e) p q h = less_minus y p
  where
    less_minus : (y : Float) → T (positive y) → T (unsigned (y ⊖ fin true zero e))
    less_minus nan p = absurd p
    less_minus (inf s) p = absurd p
    less_minus (fin true n d) p = absurd p
    less_minus (fin false n d) p = add-unsigned binary64 (fin false n d) (fin false zero e) tt tt

positive-neg : (p : Float) → T (finite p) → T (lt p 0·0) → T (positive (neg p))
unfolding lt neg of_bits
positive-neg nan f h = absurd f
positive-neg (inf s) f h = absurd f
positive-neg (fin false m e) f h = absurd (no (ltb→lt (m * up e * 1) (0 * 1 * down e) h))
  where
    no : m * up e * 1 < 0 * 1 * down e → ⊥
    no l = let z = zero_product 1 (down e) in omega arith
positive-neg (fin true m e) f h = lt→ltb 0 m (first_pos m (up e) (more (ltb→lt 0 (m * up e * 1 + 0 * 1 * down e) h)))
  where
    more : 0 < m * up e * 1 + 0 * 1 * down e → 0 < m * up e
    more l = let z = zero_product 1 (down e) in omega arith

module _ (x y z s : Float) (w : AtMostOneZero x y z) (h : T (positive s)) where
  sorted : T (fits binary64 x) → T (fits binary64 y) → T (fits binary64 z) → Inner (least_of x y z) (middle_of x y z) (greatest_of x y z) s
  sorted fx fy fz =
      let fit : Float → Type 0 = λ (t : Float). T (fits binary64 t) in
      let nb : Float → Type 0 = λ (t : Float). T (not_below_zero t) in
      let a = least_of x y z in
      let b = middle_of x y z in
      let c = greatest_of x y z in
      let b-pos : T (positive b) = is_positive b (middle_has x y z nb w.first w.second w.third) (middle_above x y z w) in
      let c_pos : T (positive c) =
      is_positive c (greatest-has x y z nb w.first w.second w.third) (under_positive b c (under_greatest x y z w) (middle_above x y z w)) in
      let b-un = finite_unsigned_of_positive b b-pos in
      let c-un = finite_unsigned_of_positive c c_pos in
      inner_of a b c s
      (p'-above a b c s b-pos (middle_has x y z fit fx fy fz) c-un h
      (diff_unsigned b a b-pos (least-has x y z nb w.first w.second w.third) (least_under x y z w))
      (cross→le b c b-un c-un (under_greatest x y z w)))

-- with a ≤ b ≤ c for x, y, z in order, R_J(a, b, c, p') is the R_J for p above zero
pub inner_rj :
    (x y z p : Float) → T (fits binary64 x) → T (fits binary64 y) → T (fits binary64 z) → in_domain x y z ≡ true → finite p ≡ true → lt p 0·0 ≡ true
    → let a = least_of x y z in let b = middle_of x y z in let c = greatest_of x y z in rj a b c (p' a b c (neg p)) ≡ rj_above a b c (p' a b c (neg p))
inner_rj x y z p fx fy fz d f l = sorted x y z (neg p) (of_domain x y z d) (positive-neg p (true→T f) (true→T l)) fx fy fz
