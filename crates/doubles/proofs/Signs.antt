-- Zeros, signs and NaNs by comparisons, and the sign of a rounded fraction. Assumes nothing.
use mathlib.Core.Path.{◌≡◌, refl, sym, ap, ◌∙◌, subst}
use Prim.Native.Nat.{ℕ, zero, suc, ◌+◌, ◌-◌, ◌*◌, ◌/◌, ◌%◌, ◌^◌, ◌<◌, compare}
use native.Mathlib.Nat.{lt_irrefl, mul-one, one-mul, mul-pos, zero-lt-suc, zero-mul, pow-succ', le_of_lt}
use native.Mathlib.Omega.{arith}
use mathlib.Core.Bool.{Bool, true, false, not, ◌&&◌, ◌||◌, cond, beq, false≢true}
use lib.IntN.{ℤ, pos, negsuc}
use lib.Dec.{T, not_T, eqb_refl, ltb, eqb, eqb→eq, ltb→lt, le→leb}
use lib.Pow.{pow_pos}
use lib.Ieee.{Float, nan, inf, fin, Format, binary64, prec, emax, low, up, down, minus, size, nearest, odd, units, round, fits, level, of_bits, of_int, in_float, neg, lt, eq, ne, is_nan}
use lib.Ieee.Fits.{up_pos, and_l, round_is}
use lib.Ieee.Bits.{is_false, is_true}
use lib.Ieee.Compare.{differs_from_itself}
use lib.Ieee.Positive.{positive}
use Rattle.doubles.specs.Constants.{0·0}
use Rattle.doubles.proofs.Exponent.{minus_lt}

pub true→T : {b : Bool} → b ≡ true → T b
true→T p = subst T (sym p) tt

pub false→T : {b : Bool} → b ≡ false → T (not b)
false→T p = subst (λ (b : Bool). T (not b)) (sym p) tt

-- ---- zeros

two_up : (p : ℕ) → 0 < p → 2 * p ≡ 1 → ⊥
two_up p h e = omega arith

flat : (e : ℤ) → up e * down e ≡ 1 → e ≡ pos 0
flat (pos zero) h = refl
flat (pos (suc k)) h = absurd (two_up (2 ^ k) (pow_pos k) (sym (pow-succ' 2 k) ∙ sym (mul-one (2 ^ suc k)) ∙ h))
flat (negsuc k) h = absurd (two_up (2 ^ k) (pow_pos k) (sym (pow-succ' 2 k) ∙ sym (one-mul (2 ^ suc k)) ∙ h))

-- a zero that fits is written with the exponent 0
pub zero_exp : (f : Format) (s : Bool) (e : ℤ) → T (fits f (fin s zero e)) → e ≡ pos 0
unfolding fits
zero_exp f s e t = flat e (eqb→eq (up e * down e) 1 t)

-- m * 2 ^ e against zero, as `eq` and `lt` compare them
not_level : (m : ℕ) (e : ℤ) → 0 < m → m * up e * 1 ≡ 0 * down e → ⊥
not_level m e p h = lt_irrefl 0 (subst (λ (n : ℕ). 0 < n) (h ∙ zero-mul (down e)) (mul-pos (mul-pos p (up_pos e)) (zero-lt-suc 0)))

-- a value that equals zero is a zero
pub is-zero : (x : Float) → eq x 0·0 ≡ true → (s : Bool) × (e : ℤ) × (x ≡ fin s 0 e)
unfolding eq of_bits
is-zero nan h = absurd (false≢true h)
is-zero (inf s) h = absurd (false≢true h)
is-zero (fin s zero e) h = (s, e, refl)
is-zero (fin s (suc m) e) h =
    absurd (not_level (suc m) e (zero-lt-suc m) (eqb→eq (suc m * up e * 1) (0 * down e) (and_l (eqb (suc m * up e * 1) (0 * down e)) (beq s false || eqb (suc m * up e * 1) 0) (true→T h))))

-- and a zero equals zero
pub zero_equals : (s : Bool) (e : ℤ) → eq (fin s 0 e) 0·0 ≡ true
unfolding eq of_bits
zero_equals s e = rw (zero-mul (up e), zero-mul (down e)) (go s)
  where
    go : (s : Bool) → (true && (beq s false || true)) ≡ true
    go true = refl
    go false = refl

-- a value above zero is neither zero nor below it
pub above_zero : (x : Float) → T (positive x) → (eq x 0·0 ≡ false) × (lt x 0·0 ≡ false)
unfolding of_bits lt eq
above_zero nan p = absurd p
above_zero (inf s) p = absurd p
above_zero (fin true m e) p = absurd p
above_zero (fin false m e) p = (
  is_false (level false (m * up e * 1) false (0 * down e))
      (not_T (level false (m * up e * 1) false (0 * down e))
      (λ (t : T (level false (m * up e * 1) false (0 * down e))). not_level m e (ltb→lt 0 m p) (eqb→eq (m * up e * 1) (0 * down e) (and_l (eqb (m * up e * 1) (0 * down e)) true t)))),
  is_false (ltb (m * up e * 1) (0 * down e))
      (not_T (ltb (m * up e * 1) (0 * down e)) (λ (t : T (ltb (m * up e * 1) (0 * down e))). none (zero-mul (down e)) (ltb→lt (m * up e * 1) (0 * down e) t))),
)
  where
    none : {a b : ℕ} → b ≡ 0 → a < b → ⊥
    none {a} {b} e h = omega arith

-- ---- -x of a rounded fraction

neg_odd : (d : ℕ) (s : Bool) (q k l : ℕ) → neg (odd d s q k l) ≡ odd d (not s) q k l
unfolding odd neg
neg_odd d s zero k l = refl
neg_odd d s (suc q) k l = refl

neg_units : (f : Format) (s : Bool) (q k : ℕ) → neg (units f s q k) ≡ units f (not s) q k
unfolding units
neg_units f s q k = go (ltb (q * 2 ^ k) (2 ^ (low f + suc (emax f))))
  where
    go : (b : Bool) → neg (cond b (odd (suc (prec f)) s q k (low f)) (inf s)) ≡ cond b (odd (suc (prec f)) (not s) q k (low f)) (inf (not s))
    go true = neg_odd (suc (prec f)) s q k (low f)
    go false = unfold neg in refl

pub neg-round : (f : Format) (s : Bool) (a c : ℕ) → neg (round f s a c) ≡ round f (not s) a c
neg-round f s a c =
    let n = a * 2 ^ low f in
    let k = size (n / c) - prec f in
    let u = c * 2 ^ k in
    rw (round_is f s a c, round_is f (not s) a c) (neg_units f s (nearest (n / u) (compare (n % u * 2) u)) k)

-- ---- a whole number as a float

-- a cast of a number of 53 digits is exact
pub in_float_lem : (n : ℕ) → n < 2 ^ 53 → T (in_float binary64 (pos n))
unfolding in_float
in_float_lem n h = le→leb n (2 ^ 53) (le_of_lt h)

-- a - b, for a below b, is -(b - a)
pub minus_neg : (f : Format) (a b : ℕ) → a < b → neg (of_int f (pos (b - a))) ≡ of_int f (minus a b)
unfolding of_int
minus_neg f a b h = neg-round f false (b - a) 1 ∙ ap (λ (n : ℕ). round f true n 1) (sym (distance h)) ∙ ap (of_int f) (sym (minus_lt a b h))
  where
    distance : a < b → suc (b - suc a) ≡ b - a
    distance h = omega arith

-- ---- `x != x` is the test for a NaN

pub ne_self : (x : Float) → ne x x ≡ is_nan x
unfolding ne is_nan
ne_self nan = refl
ne_self (inf true) = refl
ne_self (inf false) = refl
ne_self (fin true m e) = ap (λ (b : Bool). not (b && true)) (is_true (eqb (m * up e * down e) (m * up e * down e)) (eqb_refl (m * up e * down e)))
ne_self (fin false m e) = ap (λ (b : Bool). not (b && true)) (is_true (eqb (m * up e * down e) (m * up e * down e)) (eqb_refl (m * up e * down e)))

pub is-nan : (x : Float) → ne x x ≡ true → x ≡ nan
is-nan x h = differs_from_itself x (true→T h)

pub is_number : (x : Float) → ne x x ≡ false → T (not (is_nan x))
is_number x h = false→T (sym (ne_self x) ∙ h)
