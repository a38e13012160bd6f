-- A number of at most 15 digits divided once by a power of ten is the nearest double. States: `decimal_rounded`: `decimal` is the exact quotient, rounded; `nearest_decimal`: it is `Nearest`,
-- strictly nearer than every other finite double, of either sign. Assumes nothing.
use Rattle.std.specs.Prelude.{◌≡◌, refl, Bool, ◌&&◌, ℕ, ◌+◌, ◌*◌, ◌^◌, ◌≤◌, ◌<◌, T, eqb, ℤ, pos, Float}
use Rattle.std.proofs.Common.{sym, ap, ap₂, ◌∙◌, subst, le_of_lt, lt_trans, lt_of_not-le, zero-lt-suc, zero-mul, mul_comm, mul-pos, mul-le-mul_left, mul-lt-mul_of_pos_right, lt_of_mul-lt-mul_right, arith, lit≤, pow_pos}
use Rattle.std.proofs.Math.Bool.{true, false}
use Rattle.std.proofs.Math.Nat.{mul-sub, one-le-pow, eq_of_mul-eq-mul_right}
use Rattle.std.proofs.Math.Numerals.{lt_of_le_of_ne}
use Rattle.std.proofs.Math.Decide.{dec_le}
use Rattle.std.specs.Float.{nan, inf, fin, binary64}
use Rattle.std.specs.Float.Ieee.{up, down, round, of_int, fits, eq}
use Rattle.std.specs.Float.Ieee.Exact.{HasValue, units_val}
use Rattle.std.specs.Float.Ieee.Fits.{down_pos, round-fits, round_is, and_i, eq→eqb}
use Rattle.std.specs.Float.Ieee.Back.{round_whole}
use Rattle.std.specs.Float.Ieee.Order.{drop, kept, round_mono}
use Rattle.std.specs.Float.Ieee.Positive.{num, den, den_pos, value→cross, positive_of_value}
use Rattle.std.specs.Float.Ieee.Scale.{finite, grid, overflow, round_same, round_under}
use Rattle.doubles.specs.Magnitude.{negative, abs, finite_unsigned}
use Rattle.doubles.proofs.FiniteUnsigned.{finite_unsigned_of_value, round-finite_unsigned, div_is, num_pos}
use Rattle.doubles.proofs.SignBit.{abs_fits}
use Rattle.doubles.proofs.Signs.{neg-round}
use Rattle.doubles.proofs.Value.{Units, units_of}
use Rattle.obj.specs.Decimal.{decimal, negated_if}
use Rattle.obj_nearest.specs.Nearest.{apart, distance, Nearest}
use Rattle.obj_nearest.proofs.ExactLaws.{fifteen_digits_fit, digits_exact, power_exact}
use Rattle.obj_nearest.proofs.NoTie.{no_tie}
use Rattle.obj_nearest.proofs.RoundedFraction.{NoTie, RoundedFraction, rounded, above_midpoint, below_midpoint}

-- ---- both operands are whole numbers, exactly, so that their quotient is rounded once

quotient : (x dx y dy n m : ℕ) → x * 1 ≡ n * dx → y * 1 ≡ m * dy → x * dy * m ≡ n * (y * dx)
quotient x dx y dy n m h l =
    let e : x * (y * 1) ≡ x * (m * dy) = ap (λ (z : ℕ). x * z) l in
    let f : x * 1 * y ≡ n * dx * y = ap (λ (z : ℕ). z * y) h in
    omega arith

ten_pos : (k : ℕ) → 0 < 10 ^ k
ten_pos k = one-le-pow k 10 (zero-lt-suc 9)

pub decimal_rounded : (d k : ℕ) → d < 10 ^ 15 → k ≤ 14 → decimal d k ≡ round binary64 false d (10 ^ k)
unfolding decimal
decimal_rounded d k h l =
    let x = of_int binary64 (pos d) in
    let y = of_int binary64 (pos (10 ^ k)) in
    let v = digits_exact d h in
    let w = power_exact k l in
    let p = positive_of_value y (10 ^ k) 1 w (ten_pos k) in
    div_is binary64 x y (finite_unsigned_of_value x d 1 v) p
    ∙ round_same binary64 false (num x * den y) (num y * den x) d (10 ^ k) (mul-pos (num_pos y p) (den_pos x)) (ten_pos k)
    (quotient (num x) (den x) (num y) (den y) d (10 ^ k) (value→cross x d 1 v) (value→cross y (10 ^ k) 1 w))

negated : (s : Bool) (a c : ℕ) → negated_if s (round binary64 false a c) ≡ round binary64 s a c
negated true a c = neg-round binary64 false a c
negated false a c = refl

-- ---- distances as whole numbers: with x / e = R / U and y / f = Y / U, in units of 1 / U

apart_scaled : (a b c : ℕ) → apart a b * c ≡ apart (a * c) (b * c)
apart_scaled a b c =
    let e = mul-sub c a b in
    let f = mul-sub c b a in
    let g : a * c ≡ c * a = mul_comm a c in
    let h : b * c ≡ c * b = mul_comm b c in
    omega arith

same_sign : (x e R U n m : ℕ) → x * U ≡ R * e → apart (x * m) (n * e) * U ≡ apart (R * m) (n * U) * e
same_sign x e R U n m h =
    let f : x * U * m ≡ R * e * m = ap (λ (z : ℕ). z * m) h in
    let a : x * m * U ≡ R * m * e = omega arith in
    let b : n * e * U ≡ n * U * e = omega arith in
    apart_scaled (x * m) (n * e) U ∙ ap₂ (λ (i j : ℕ). apart i j) a b ∙ sym (apart_scaled (R * m) (n * U) e)

other_sign : (x e R U n m : ℕ) → x * U ≡ R * e → (x * m + n * e) * U ≡ (R * m + n * U) * e
other_sign x e R U n m h = let f : x * U * m ≡ R * e * m = ap (λ (z : ℕ). z * m) h in omega arith

in_order : (a e g b f h U : ℕ) → a * U ≡ g * e → b * U ≡ h * f → g < h → 0 < e → 0 < f → a * f < b * e
in_order a e g b f h U p q l E F =
    let i : g * (e * f) < h * (e * f) = mul-lt-mul_of_pos_right l (mul-pos E F) in
    let j : a * U * f ≡ g * e * f = ap (λ (z : ℕ). z * f) p in
    let k : b * U * e ≡ h * f * e = ap (λ (z : ℕ). z * e) q in
    lt_of_mul-lt-mul_right U (omega arith)

-- ---- in units, R = c * 2 ^ k is nearer a / b than any other number of 53 digits is, and than any on the other side of zero

module _ (a b c k : ℕ) (pb : 0 < b) (r : RoundedFraction a b c k) (n : NoTie a b k) where
  abbrev R : ℕ
  R = c * 2 ^ k

  units_like_sign : (p j : ℕ) → p < 2 ^ 53 → (R ≡ p * 2 ^ j → ⊥) → apart (R * b) a < apart (p * 2 ^ j * b) a
  units_like_sign p j l e = either (dec_le R (p * 2 ^ j))
    where
      either : Dec (R ≤ p * 2 ^ j) → apart (R * b) a < apart (p * 2 ^ j * b) a
      either (yes h) =
          let i = lt_of_le_of_ne h e in
          let g = above_midpoint a b c k pb r n p j l i in
          let f : R * b < p * 2 ^ j * b = mul-lt-mul_of_pos_right i pb in
          omega arith
      either (no h) =
          let i = lt_of_not-le h in
          let g = below_midpoint a b c k pb r n p j l i in
          let f : p * 2 ^ j * b < R * b = mul-lt-mul_of_pos_right i pb in
          omega arith

  units_unlike_sign : (Y : ℕ) → (R ≡ 0 → Y ≡ 0 → ⊥) → apart (R * b) a < Y * b + a
  units_unlike_sign Y e = either (dec_le R 0)
    where
      either : Dec (R ≤ 0) → apart (R * b) a < Y * b + a
      either (yes h) =
          let z : R ≡ 0 = omega arith in
          let f : R * b ≡ 0 * b = ap (λ (x : ℕ). x * b) z in
          let y : 0 < Y = lt_of_not-le (λ g. e z (omega arith)) in
          let i : 0 < Y * b = mul-pos y pb in
          omega arith
      either (no h) = let g = units_like_sign 0 0 (lit≤ tt) (λ g. h (omega arith)) in omega arith

-- ---- two doubles of one magnitude have the same units

same_units : (a e b f R Y U : ℕ) → a * U ≡ R * e → b * U ≡ Y * f → R ≡ Y → 0 < U → a * f ≡ b * e
same_units a e b f R Y U h l q p =
    let i : a * U * f ≡ R * e * f = ap (λ (z : ℕ). z * f) h in
    let j : b * U * e ≡ Y * f * e = ap (λ (z : ℕ). z * e) l in
    let k : R * (e * f) ≡ Y * (e * f) = ap (λ (z : ℕ). z * (e * f)) q in
    eq_of_mul-eq-mul_right U p (a * f) (b * e) (omega arith)

magnitude : (s : Bool) (w : ℕ) (f : ℤ) → T (fits binary64 (fin s w f)) → Units binary64 (fin false w f)
unfolding abs
magnitude s w f t = units_of binary64 (fin false w f) (abs_fits (fin s w f) t) tt

-- ---- the double x * 2 ^ e, of c * 2 ^ k units, against another, w * 2 ^ f

module _ (n m c k : ℕ) (pm : 0 < m) (r : RoundedFraction (n * 2 ^ 1074) m c k) (t : NoTie (n * 2 ^ 1074) m k)
    (x : ℕ) (e : ℤ) (v : x * up e * 2 ^ 1074 ≡ c * 2 ^ k * down e) (w : ℕ) (f : ℤ) (u : Units binary64 (fin false w f)) where
  abbrev Y : ℕ
  Y = u.p * 2 ^ u.j

  same_number : c * 2 ^ k ≡ Y → x * up e * down f ≡ w * up f * down e
  same_number q = same_units (x * up e) (down e) (w * up f) (down f) (c * 2 ^ k) Y (2 ^ 1074) v u.value.1 q (pow_pos 1074)

  of_like_sign : eqb (x * up e * down f) (w * up f * down e) && true ≡ false → apart (x * up e * m) (n * down e) * down f < apart (w * up f * m) (n * down f) * down e
  of_like_sign h =
      in_order (apart (x * up e * m) (n * down e)) (down e) (apart (c * 2 ^ k * m) (n * 2 ^ 1074)) (apart (w * up f * m) (n * down f)) (down f) (apart (Y * m) (n * 2 ^ 1074)) (2 ^ 1074)
      (same_sign (x * up e) (down e) (c * 2 ^ k) (2 ^ 1074) n m v) (same_sign (w * up f) (down f) Y (2 ^ 1074) n m u.value.1)
      (units_like_sign (n * 2 ^ 1074) m c k pm r t u.p u.j u.digits (λ q. subst T h (and_i (eqb (x * up e * down f) (w * up f * down e)) true (eq→eqb (same_number q)) tt)))
      (down_pos e) (down_pos f)

  of_unlike_sign : eqb (x * up e * down f) (w * up f * down e) && eqb (x * up e * down f) 0 ≡ false → apart (x * up e * m) (n * down e) * down f < (w * up f * m + n * down f) * down e
  of_unlike_sign h =
      in_order (apart (x * up e * m) (n * down e)) (down e) (apart (c * 2 ^ k * m) (n * 2 ^ 1074)) (w * up f * m + n * down f) (down f) (Y * m + n * 2 ^ 1074) (2 ^ 1074)
      (same_sign (x * up e) (down e) (c * 2 ^ k) (2 ^ 1074) n m v) (other_sign (w * up f) (down f) Y (2 ^ 1074) n m u.value.1)
      (units_unlike_sign (n * 2 ^ 1074) m c k pm r t Y (λ p q. subst T h (and_i (eqb (x * up e * down f) (w * up f * down e)) (eqb (x * up e * down f) 0) (eq→eqb (same_number (p ∙ sym q))) (eq→eqb (nothing p)))))
      (down_pos e) (down_pos f)
    where
      nothing : c * 2 ^ k ≡ 0 → x * up e * down f ≡ 0
      nothing p = same_units (x * up e) (down e) 0 (down f) (c * 2 ^ k) 0 (2 ^ 1074) v (sym (zero-mul (down f))) p (pow_pos 1074) ∙ zero-mul (down e)

  nearer_than : (s i : Bool) → eq (fin s x e) (fin i w f) ≡ false → distance s n m (fin s x e) * down f < distance s n m (fin i w f) * down e
  unfolding distance negative eq
  nearer_than true true h = of_like_sign h
  nearer_than true false h = of_unlike_sign h
  nearer_than false true h = of_unlike_sign h
  nearer_than false false h = of_like_sign h

-- ---- a fraction rounded is `Nearest`, where there is no tie and nothing overflows

module _ (s : Bool) (n m c k : ℕ) (pm : 0 < m) (r : RoundedFraction (n * 2 ^ 1074) m c k) (t : NoTie (n * 2 ^ 1074) m k) where
  nearest_of_value : (x : Float) → T (fits binary64 x) → HasValue x s (c * 2 ^ k) (2 ^ 1074) → Nearest s n m x
  nearest_of_value nan g v = absurd v
  nearest_of_value (inf i) g v = absurd v
  nearest_of_value (fin i x e) g v = subst (λ (b : Bool). Nearest s n m (fin b x e)) (sym v.0) (signed (subst (λ (b : Bool). T (fits binary64 (fin b x e))) v.0 g))
    where
      nearer_at : (y : Float) → T (fits binary64 y) → T (finite y) → eq (fin s x e) y ≡ false → distance s n m (fin s x e) * den y < distance s n m y * down e
      nearer_at nan h f q = absurd f
      nearer_at (inf i) h f q = absurd f
      nearer_at (fin i w d) h f q = nearer_than n m c k pm r t x e v.1 w d (magnitude i w d h) s i q

      signed : T (fits binary64 (fin s x e)) → Nearest s n m (fin s x e)
      signed h = record { double = h; is_finite = tt; sign = unfold negative in refl; nearer = nearer_at }

-- n / m is no more than n, and n is a double
small : (n m : ℕ) → n < 10 ^ 15 → 0 < m → grid binary64 n m < overflow binary64
small n m h p =
    let v = round_whole binary64 false n (le_of_lt (lt_trans h fifteen_digits_fit)) in
    round_under binary64 n m
    (is_finite (round binary64 false n m)
    (round-finite_unsigned binary64 n m (round binary64 false n 1) (finite_unsigned_of_value (round binary64 false n 1) n 1 v) (round_mono binary64 n m n 1 p (zero-lt-suc 0) (mul-le-mul_left n p))))
  where
    is_finite : (x : Float) → T (finite_unsigned x) → T (finite x)
    is_finite nan t = t
    is_finite (inf s) t = t
    is_finite (fin s m e) t = tt

round_nearest : (s : Bool) (d k : ℕ) → d < 10 ^ 15 → k ≤ 14 → Nearest s d (10 ^ k) (round binary64 s d (10 ^ k))
round_nearest s d k h l =
    let a = d * 2 ^ 1074 in
    let b = 10 ^ k in
    nearest_of_value s d b (kept 53 a b) (drop 53 a b) (ten_pos k) (rounded a b (ten_pos k)) (no_tie d k 1074 (drop 53 a b) h l (lit≤ tt)) (round binary64 s d b) (round-fits binary64 s d b)
    (rw (round_is binary64 s d b) (units_val binary64 s (kept 53 a b) (drop 53 a b) (small d b h (ten_pos k))))

pub nearest_decimal : (s : Bool) (d k : ℕ) → d < 10 ^ 15 → k ≤ 14 → Nearest s d (10 ^ k) (negated_if s (decimal d k))
nearest_decimal s d k h l = rw (decimal_rounded d k h l, negated s d (10 ^ k)) (round_nearest s d k h l)
