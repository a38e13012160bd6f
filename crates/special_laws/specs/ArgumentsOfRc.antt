-- Each R_C that ln, atan and atan2 call has its arguments from 1/4 to 4. States: `in_ln`, `in_atan` and `in_atan_beyond`: so it takes at most six rounds
-- (`WithinSix`); and before them `places-low` and `places-high`: the t of ln lies from 3/4 up and below 3/2; `y_within` and `reciprocal`: the y of atan lies from 1/4
-- to 4, and 1/z up to 1 where z is beyond it. Assumes nothing.
use Rattle.std.specs.Prelude.{◌≡◌, ℕ, suc, ◌-◌, ◌*◌, ◌^◌, ◌≤◌, ◌<◌, Bool, true, false, not, cond, pos, negsuc, T, leb, Float}
use Rattle.std.proofs.Common.{ap, ◌∙◌, lt_of_not-le, not-le_of_lt, le_of_lt, lt_of_lt_of_le, mul-le-mul_right, le_of_mul-le-mul_right, pow-suc, arith, leb→le, pow_pos, pow_mono}
use Rattle.std.proofs.Math.Dec.{nleb→lt}
use Rattle.std.specs.Float.{nan, inf, fin, binary64}
use Rattle.std.specs.Float.Ieee.{up, down, minus, size, of_bits, add, mul, div, le, is_nan}
use Rattle.std.specs.Float.Ieee.Digits.{size-lt, size_reaches, minus_val}
use Rattle.doubles.specs.Rounded.{◌⊕◌, ◌⊗◌, ◌⊘◌}
use Rattle.doubles.specs.Constants.{1·0}
use Rattle.doubles.specs.Magnitude.{abs, finite_unsigned}
use Rattle.doubles.proofs.FiniteUnsigned.{cross→le}
use Rattle.doubles.proofs.Between.{Between, point, wider, between_add, between_mul, between_div, +0, +0-le, le_total, le_self, abs_finite, mul_self, abs-div}
use Rattle.roots.proofs.Bounds.{1/4, four}
use Rattle.carlson.specs.Logarithm.{binary_places, fraction, midpoint}
use Rattle.special_laws.specs.RoundsTaken.{WithinSix}
use Rattle.special_laws.specs.SixRounds.{3/4, 2-point, within_six}

-- ---- t lies from 3/4 to 3/2

abbrev 3/2 : Float
3/2 = fin false 3 (negsuc 0)

size_pos : (m : ℕ) → 0 < m → 0 < size m
size_pos m M = lt_of_not-le (λ (g : size m ≤ 0). not-le_of_lt (lt_of_lt_of_le (size-lt m) (pow_mono g)) M)

top_digit : (m : ℕ) → 0 < m → 2 ^ (size m - 1) ≤ m
top_digit m M = size_reaches m (size m - 1) (pred (size m) (size_pos m M))
  where
    pred : (z : ℕ) → 0 < z → z - 1 < z
    pred z h = omega arith

-- 3/4 ≤ m / 2^j < 3/2, for j = places m
pub places-low : (m : ℕ) → 0 < m → 3 * 2 ^ binary_places m ≤ 4 * m
places-low m M = go (leb (3 * 2 ^ size m) (4 * m)) (leb→le (3 * 2 ^ size m) (4 * m))
  where
    go : (b : Bool) → (T b → 3 * 2 ^ size m ≤ 4 * m) → 3 * 2 ^ cond b (size m) (size m - 1) ≤ 4 * m
    go true h = h tt
    go false h = let d : 2 ^ (size m - 1) ≤ m = top_digit m M in omega arith

pub places-high : (m : ℕ) → 0 < m → 2 * m < 3 * 2 ^ binary_places m
places-high m M = go (leb (3 * 2 ^ size m) (4 * m)) (nleb→lt (3 * 2 ^ size m) (4 * m))
  where
    one_more : (z : ℕ) → 0 < z → 2 ^ z ≡ 2 ^ (z - 1) * 2
    one_more z h = ap (λ (n : ℕ). 2 ^ n) (up z h) ∙ pow-suc 2 (z - 1)
      where
        up : (z : ℕ) → 0 < z → z ≡ suc (z - 1)
        up z h = omega arith

    go : (b : Bool) → (T (not b) → 4 * m < 3 * 2 ^ size m) → 2 * m < 3 * 2 ^ cond b (size m) (size m - 1)
    go true h = let d : m < 2 ^ size m = size-lt m in omega arith
    go false h =
        let d : 4 * m < 3 * 2 ^ size m = h tt in
        let e : 2 ^ size m ≡ 2 ^ (size m - 1) * 2 = one_more (size m) (size_pos m M) in
        omega arith

-- the same of a fraction u / d that is m / p
from-below : (u d p m : ℕ) → 0 < p → u * p ≡ m * 1 * d → 3 * p ≤ 4 * m → 3 * d ≤ u * 4
from-below u d p m P e h = let g : 3 * p * d ≤ 4 * m * d = mul-le-mul_right d h in le_of_mul-le-mul_right {k = p} (omega arith) P

from-above : (u d p m : ℕ) → 0 < p → u * p ≡ m * 1 * d → 2 * m ≤ 3 * p → u * 2 ≤ 3 * d
from-above u d p m P e h = let g : 2 * m * d ≤ 3 * p * d = mul-le-mul_right d h in le_of_mul-le-mul_right {k = p} (omega arith) P

fraction-within : (m : ℕ) → 0 < m → Between 3/4 3/2 (fraction m)
fraction-within m M =
    let j = binary_places m in
    let v = minus_val m 0 j in
    record {
      lo_ok = tt;
      hi_ok = tt;
      ok = tt;
      low = cross→le 3/4 (fraction m) tt tt (from-below (m * up (minus 0 j)) (down (minus 0 j)) (2 ^ j) m (pow_pos j) v (places-low m M));
      high = cross→le (fraction m) 3/2 tt tt (from-above (m * up (minus 0 j)) (down (minus 0 j)) (2 ^ j) m (pow_pos j) v (le_of_lt (places-high m M)));
    }

-- ---- each R_C that is called

1-point : Between 1·0 1·0 1·0
unfolding of_bits
1-point = point 1·0 tt

square-within : (t : Float) → Between 3/4 3/2 t → Between 1/4 four (midpoint t ⊗ midpoint t)
unfolding of_bits add mul div le
square-within t w =
    let h = between_div binary64 (between_add binary64 1-point w tt) 2-point tt tt in
    wider 1/4 four tt tt tt tt (between_mul binary64 h h tt)

t_within : (t : Float) → Between 3/4 3/2 t → Between 1/4 four t
unfolding le
t_within t w = wider 1/4 four tt tt tt tt w

-- in ln of m 2^e
pub in_ln : (m : ℕ) → 0 < m → WithinSix (midpoint (fraction m) ⊗ midpoint (fraction m)) (fraction m)
in_ln m M = let w = fraction-within m M in within_six (midpoint (fraction m) ⊗ midpoint (fraction m)) (fraction m) (square-within (fraction m) w) (t_within (fraction m) w)

1-within : Between 1/4 four 1·0
unfolding of_bits le
1-within = wider 1/4 four tt tt tt tt 1-point

magnitude : (z : Float) → T (le (abs z) 1·0) → Between +0 1·0 (abs z)
unfolding of_bits
magnitude z h =
    let p : T (finite_unsigned (abs z)) = abs_finite z 1·0 tt h in
    record { lo_ok = tt; hi_ok = tt; ok = p; low = +0-le (abs z) p; high = h }

pub y_within : (z : Float) → T (le (abs z) 1·0) → Between 1/4 four (1·0 ⊕ z ⊗ z)
unfolding of_bits add mul le
y_within z h =
    let w = magnitude z h in
    rw (mul_self binary64 z) (wider 1/4 four tt tt tt tt (between_add binary64 1-point (between_mul binary64 w w tt) tt))

-- in atan z, up to 1
pub in_atan : (z : Float) → T (le (abs z) 1·0) → WithinSix 1·0 (1·0 ⊕ z ⊗ z)
in_atan z h = within_six 1·0 (1·0 ⊕ z ⊗ z) 1-within (y_within z h)

-- beyond 1, |1/z| ≤ 1
pub reciprocal : (z : Float) → T (not (is_nan z)) → T (not (le (abs z) 1·0)) → T (le (abs (1·0 ⊘ z)) 1·0)
unfolding of_bits div abs le is_nan
reciprocal nan n h = absurd n
reciprocal (inf s) n h = tt
reciprocal (fin s m e) n h =
    let x : Float = fin false m e in
    let w : Between 1·0 x x = record { lo_ok = tt; hi_ok = tt; ok = tt; low = le_total x 1·0 tt tt h; high = le_self x tt } in
    rw (abs-div binary64 1 (pos 0) (fin s m e)) (between_div binary64 1-point w tt tt).high

pub in_atan_beyond : (z : Float) → T (not (is_nan z)) → T (not (le (abs z) 1·0)) → WithinSix 1·0 (1·0 ⊕ 1·0 ⊘ z ⊗ (1·0 ⊘ z))
in_atan_beyond z n h = in_atan (1·0 ⊘ z) (reciprocal z n h)
