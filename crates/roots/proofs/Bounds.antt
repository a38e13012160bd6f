-- The root of a number from a² to b², for doubles a and b, lies from a to b; so the root of a number from 1/4 to 4 lies from 1/2 to 2. Assumes nothing.
use Rattle.std.proofs.Common.{◌≡◌, ℕ, ◌*◌, ◌/◌, ◌^◌, ◌<◌, ◌≤◌, true, false, T, pos, negsuc, ap, lt_of_le_of_lt, mul-le-mul_right, mul-pos, le-div_iff_mul-le, le_of_mul-le-mul_right, arith, pow_pos}
use native.Mathlib.Nat.{div-le_of_le-mul}
use lib.Ieee.{Float, nan, inf, fin, binary64, up, down, units, fits}
use lib.Ieee.Exact.{HasValue, units_val}
use lib.Ieee.Fits.{down_pos}
use lib.Ieee.Order.{le_of_values}
use lib.Ieee.Positive.{num, den, den_pos, value→cross}
use Rattle.doubles.specs.Magnitude.{finite_unsigned}
use Rattle.doubles.proofs.FiniteUnsigned.{le→cross, finite_unsigned_of_value}
use Rattle.doubles.proofs.Value.{Units, units_of}
use Rattle.doubles.proofs.Between.{Between}
use Rattle.roots.specs.Root.{root_of, Root}
use Rattle.roots.specs.Rounding.{root_of_rounded, root_ge, root_le}

-- a² against x = y / d, in units: A is a's, and U is 2 ^ 1074
low_units : (y d n m A U : ℕ) → 0 < d → 0 < m → n * U ≡ A * m → n * n * d ≤ y * (m * m) → A * A ≤ y * (U * U) / d
low_units y d n m A U pd pm e h =
    let f : n * U * (n * U) * d ≡ A * m * (A * m) * d = ap (λ (z : ℕ). z * z * d) e in
    let g : n * n * d * (U * U) ≤ y * (m * m) * (U * U) = mul-le-mul_right (U * U) h in
    (le-div_iff_mul-le pd).1 (le_of_mul-le-mul_right {k = m * m} (omega arith) (mul-pos pm pm))

high_units : (y d n m B U : ℕ) → 0 < m → n * U ≡ B * m → y * (m * m) ≤ n * n * d → y * (U * U) / d ≤ B * B
high_units y d n m B U pm e h =
    let f : n * U * (n * U) * d ≡ B * m * (B * m) * d = ap (λ (z : ℕ). z * z * d) e in
    let g : y * (m * m) * (U * U) ≤ n * n * d * (U * U) = mul-le-mul_right (U * U) h in
    div-le_of_le-mul d (le_of_mul-le-mul_right {k = m * m} (omega arith) (mul-pos pm pm))

module _ (a b : Float) (ta : T (fits binary64 a)) (na : T (finite_unsigned a)) (tb : T (fits binary64 b)) (nb : T (finite_unsigned b)) where
  A : Units binary64 a
  A = units_of binary64 a ta na

  B : Units binary64 b
  B = units_of binary64 b tb nb

  between : (y : Float) (c k : ℕ) → y ≡ units binary64 false c k → A.p * 2 ^ A.j ≤ c * 2 ^ k → c * 2 ^ k ≤ B.p * 2 ^ B.j → Between a b y
  between y c k e l h =
      let v : HasValue y false (c * 2 ^ k) (2 ^ 1074) = rw e (units_val binary64 false c k (lt_of_le_of_lt h B.below_overflow)) in
      record {
        lo_ok = na;
        hi_ok = nb;
        ok = finite_unsigned_of_value y (c * 2 ^ k) (2 ^ 1074) v;
        low = le_of_values a y (A.p * 2 ^ A.j) (2 ^ 1074) (c * 2 ^ k) (2 ^ 1074) (pow_pos 1074) (pow_pos 1074) A.value v (mul-le-mul_right (2 ^ 1074) l);
        high = le_of_values y b (c * 2 ^ k) (2 ^ 1074) (B.p * 2 ^ B.j) (2 ^ 1074) (pow_pos 1074) (pow_pos 1074) v B.value (mul-le-mul_right (2 ^ 1074) h);
      }

  -- a² ≤ x ≤ b², as fractions
  pub root_within : (x : Float) → T (finite_unsigned x) → num a * num a * den x ≤ num x * (den a * den a) → num x * (den b * den b) ≤ num b * num b * den x → Between a b (Root x)
  unfolding Root
  root_within nan p l h = absurd p
  root_within (inf s) p l h = absurd p
  root_within (fin true m e) p l h = absurd p
  root_within (fin false m e) p l h =
      let n = m * up e * 2 ^ 2148 / down e in
      let w = root_of_rounded n in
      between (root_of n) w.0 w.1 w.2
      (root_ge n w.0 w.1 w.3 A.p A.j A.digits (low_units (m * up e) (down e) (num a) (den a) (A.p * 2 ^ A.j) (2 ^ 1074) (down_pos e) (den_pos a) (value→cross a (A.p * 2 ^ A.j) (2 ^ 1074) A.value) l))
      (root_le n w.0 w.1 w.3 B.p B.j B.digits (high_units (m * up e) (down e) (num b) (den b) (B.p * 2 ^ B.j) (2 ^ 1074) (den_pos b) (value→cross b (B.p * 2 ^ B.j) (2 ^ 1074) B.value) h))

-- ---- what Carlson's loops need

abbrev pub 1/4 : Float
1/4 = fin false 1 (negsuc 1)

abbrev pub 1/2 : Float
1/2 = fin false 1 (negsuc 0)

abbrev pub two : Float
two = fin false 1 (pos 1)

abbrev pub four : Float
four = fin false 1 (pos 2)

pub root_between : (x : Float) → Between 1/4 four x → Between 1/2 two (Root x)
unfolding fits
root_between x w = root_within 1/2 two tt tt tt tt x w.ok (le→cross 1/4 x tt w.ok w.low) (le→cross x four w.ok tt w.high)
