-- A prism each of whose sides is 10⁻⁶ or more has a computed volume above 0: `prism-positive`. Assumes nothing.
use Rattle.std.specs.Prelude.{◌≡◌, refl, true, false, ◌*◌, ◌<◌, T, Float}
use Prim.{tt}
use Rattle.std.proofs.Common.{mul-pos, zero-mul, arith, ltb→lt, lt-ltb, ne_eqb}
use Rattle.std.specs.Float.{nan, inf, fin, binary64}
use Rattle.std.specs.Float.Ieee.{up, down, of_bits, le, lt, mul}
use Rattle.std.specs.Float.Ieee.Fits.{up_pos}
use Rattle.std.specs.Float.Ieee.Positive.{positive, above, above_of_le, mul_mono}
use Rattle.doubles.specs.Constants.{0·0}
use Rattle.doubles.specs.Rounded.{◌⊖◌, ◌⊗◌}
use Rattle.doubles.proofs.Signs.{true→T}
use Rattle.newtonian.specs.declared.Vector.{Vector}
use Rattle.prism.specs.Prism.{min_side, prism_volume}
use Rattle.sheet.specs.Promises.{SideInLimits}

above-lt : (z : Float) → T (above z) → lt 0·0 z ≡ true
unfolding lt of_bits
above-lt nan h = absurd h
above-lt (inf true) h = absurd h
above-lt (inf false) h = refl
above-lt (fin true m e) h = absurd h
above-lt (fin false m e) h =
    let p : 0 < m * up e * 1 = mul-pos (mul-pos (ltb→lt 0 m h) (up_pos e)) (omega arith) in
    lt-ltb (0 * down e) (m * up e * 1) (omega (arith, zero-mul (down e)))

-- no product of an infinity and a number above 0 is below any number
inf-mul : (y : Float) → T (above y) → mul binary64 (inf false) y ≡ inf false
unfolding mul
inf-mul nan h = absurd h
inf-mul (inf true) h = absurd h
inf-mul (inf false) h = refl
inf-mul (fin true m e) h = absurd h
inf-mul (fin false m e) h = rw (ne_eqb m 0 (λ q. omega (arith, q, ltb→lt 0 m h)))

mul-inf : (x : Float) → T (above x) → mul binary64 x (inf false) ≡ inf false
unfolding mul
mul-inf nan h = absurd h
mul-inf (inf true) h = absurd h
mul-inf (inf false) h = refl
mul-inf (fin true m e) h = absurd h
mul-inf (fin false m e) h = rw (ne_eqb m 0 (λ q. omega (arith, q, ltb→lt 0 m h)))

below_inf : (p : Float) → T (positive p) → T (le p (inf false))
unfolding le lt
below_inf nan h = absurd h
below_inf (inf s) h = absurd h
below_inf (fin true m e) h = absurd h
below_inf (fin false m e) h = tt

-- a product of numbers that are no less than two above 0
mul-above : (a c x y : Float) → T (positive a) → T (positive c) → T (positive (mul binary64 a c)) → T (above x) → T (above y) → T (le a x) → T (le c y) → T (le (mul binary64 a c) (mul binary64 x y))
mul-above a c nan y p q r h k l m = absurd h
mul-above a c (inf true) y p q r h k l m = absurd h
mul-above a c (inf false) y p q r h k l m = rw (inf-mul y k) (below_inf (mul binary64 a c) r)
mul-above a c (fin true n e) y p q r h k l m = absurd h
mul-above a c (fin false n e) nan p q r h k l m = absurd k
mul-above a c (fin false n e) (inf true) p q r h k l m = absurd k
mul-above a c (fin false n e) (inf false) p q r h k l m = rw (mul-inf (fin false n e) h) (below_inf (mul binary64 a c) r)
mul-above a c (fin false n e) (fin true o d) p q r h k l m = absurd k
mul-above a c (fin false n e) (fin false o d) p q r h k l m = mul_mono binary64 a (fin false n e) c (fin false o d) p h q k l m

small-positive : T (positive min_side)
unfolding of_bits
small-positive = tt

square-positive : T (positive (min_side ⊗ min_side))
unfolding of_bits mul
square-positive = tt

cube-positive : T (positive (min_side ⊗ min_side ⊗ min_side))
unfolding of_bits mul
cube-positive = tt

pub prism-positive : (lo hi : Vector) → SideInLimits lo.x hi.x → SideInLimits lo.y hi.y → SideInLimits lo.z hi.z → lt 0·0 (prism_volume lo hi) ≡ true
unfolding prism_volume
prism-positive lo hi x y z = above-lt _ (above_of_le (min_side ⊗ min_side ⊗ min_side) _ three xyz)
  where
    one : T (positive min_side)
    one = small-positive

    two : T (positive (min_side ⊗ min_side))
    two = square-positive

    three : T (positive (min_side ⊗ min_side ⊗ min_side))
    three = cube-positive

    xy : T (le (min_side ⊗ min_side) ((hi.x ⊖ lo.x) ⊗ (hi.y ⊖ lo.y)))
    xy =
        mul-above min_side min_side (hi.x ⊖ lo.x) (hi.y ⊖ lo.y) one one two (above_of_le min_side (hi.x ⊖ lo.x) one (true→T x)) (above_of_le min_side (hi.y ⊖ lo.y) one (true→T y))
        (true→T x) (true→T y)

    xyz : T (le (min_side ⊗ min_side ⊗ min_side) ((hi.x ⊖ lo.x) ⊗ (hi.y ⊖ lo.y) ⊗ (hi.z ⊖ lo.z)))
    xyz =
        mul-above (min_side ⊗ min_side) min_side ((hi.x ⊖ lo.x) ⊗ (hi.y ⊖ lo.y)) (hi.z ⊖ lo.z) two one three
        (above_of_le (min_side ⊗ min_side) ((hi.x ⊖ lo.x) ⊗ (hi.y ⊖ lo.y)) two xy) (above_of_le min_side (hi.z ⊖ lo.z) one (true→T z)) xy (true→T z)
