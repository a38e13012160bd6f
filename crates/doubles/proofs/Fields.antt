-- A double from its bit pattern: what the sign, the exponent's field and the digits say of a value that is finite and above zero, and how `odd` writes it. Assumes
-- nothing.
use mathlib.Core.Path.{◌≡◌, refl, sym, ap, ◌∙◌, subst}
use Prim.Native.Nat.{ℕ, zero, suc, ◌+◌, ◌-◌, ◌*◌, ◌/◌, ◌%◌, ◌^◌, ◌≤◌, ◌<◌}
use native.Mathlib.Nat.{lt_of_lt_of_le, lt_irrefl, zero-lt-suc, mul-one, mul_left_comm, div-one, pow-succ', div-div-eq-div-mul, mod-eq_of_lt, le_antisymm, lt_of_not-le, not-le_of_lt, div-lt_iff_lt-mul, pow-suc}
use native.Mathlib.Omega.{arith}
use mathlib.Core.Bool.{Bool, true, false, not, cond}
use lib.Dec.{T, leb, ltb, eqb, leb→le, nleb→lt, eqb→eq, not_T, ltb→lt, nltb→le, lt→ltb}
use lib.Pow.{pow_mono, shl_lt}
use lib.Count.{count_trailing_zeros, under}
use lib.Ieee.{nan, inf, fin, binary64, minus, size, odd, units, of_fields, of_bits, nan_bits}
use lib.Ieee.Digits.{size-lt, size-le}
use lib.Ieee.Bits.{is_false, nan_bits_above}
use lib.Ieee.Positive.{positive}

-- ---- `odd` divides the closing zeros out
whole : (n : ℕ) → n / 1 * 1 ≡ n
whole n = mul-one (n / 1) ∙ div-one n

twice_half : (n : ℕ) → n % 2 ≡ 0 → 2 * (n / 2) ≡ n
twice_half n e = omega arith

pub tz_div : (d n : ℕ) → n / 2 ^ count_trailing_zeros d n * 2 ^ count_trailing_zeros d n ≡ n
unfolding count_trailing_zeros
tz_div zero n = whole n
tz_div (suc d) n = go (n % 2) refl (tz_div d (n / 2))
  where
    go : (r : ℕ) → n % 2 ≡ r → n / 2 / 2 ^ count_trailing_zeros d (n / 2) * 2 ^ count_trailing_zeros d (n / 2) ≡ n / 2
        → n / 2 ^ under r (count_trailing_zeros d (n / 2)) * 2 ^ under r (count_trailing_zeros d (n / 2)) ≡ n
    go zero e ih =
        let t = count_trailing_zeros d (n / 2) in
        ap (λ (x : ℕ). n / x * x) (pow-succ' 2 t)
        ∙ ap (λ (x : ℕ). x * (2 * 2 ^ t)) (sym (div-div-eq-div-mul n 2 (2 ^ t)))
        ∙ mul_left_comm (n / 2 / 2 ^ t) 2 (2 ^ t)
        ∙ ap (λ (x : ℕ). 2 * x) ih
        ∙ twice_half n e
    go (suc r) e ih = whole n

pub odd_is : (d : ℕ) (s : Bool) (q k l : ℕ) → 0 < q → odd d s q k l ≡ fin s (q / 2 ^ count_trailing_zeros d q) (minus (k + count_trailing_zeros d q) l)
unfolding odd
odd_is d s zero k l h = absurd (lt_irrefl 0 h)
odd_is d s (suc q) k l h = refl

-- ---- how many digits
size-gt : (n j : ℕ) → 2 ^ j ≤ n → j < size n
size-gt n j h = lt_of_not-le (λ (g : size n ≤ j). not-le_of_lt (lt_of_lt_of_le (size-lt n) (pow_mono g)) h)

pub size_is : (n j : ℕ) → 2 ^ j ≤ n → n < 2 ^ suc j → size n ≡ suc j
size_is n j h k = le_antisymm (size-le n (suc j) k) (size-gt n j h)

-- ---- the fields of a value that is finite and above zero
odd_negative : (d q k l : ℕ) → T (positive (odd d true q k l)) → ⊥
unfolding odd
odd_negative d zero k l t = t
odd_negative d (suc q) k l t = t

pub not_negative : (x d : ℕ) → T (positive (of_fields binary64 true x d)) → ⊥
unfolding of_fields
not_negative zero d t = odd_negative 53 d 0 1074 t
not_negative (suc x) d t = go (eqb (suc x) 2047) (eqb d 0) t
  where
    go : (a b : Bool) → T (positive (cond a (cond b (inf true) nan) (odd 53 true (2 ^ 52 + d) x 1074))) → ⊥
    go true true t = t
    go true false t = t
    go false b t = odd_negative 53 (2 ^ 52 + d) x 1074 t

pub not_ones : (d : ℕ) → T (positive (of_fields binary64 false 2047 d)) → ⊥
unfolding of_fields
not_ones d t = go (eqb d 0) t
  where
    go : (b : Bool) → T (positive (cond b (inf false) nan)) → ⊥
    go true t = t
    go false t = t

field_lt : (b : ℕ) → b < 2 ^ 63 → (b / 2 ^ 52 ≡ 2047 → ⊥) → b < 2047 * 2 ^ 52
field_lt b h k = go (ltb b (2047 * 2 ^ 52)) (ltb→lt b (2047 * 2 ^ 52)) (nltb→le b (2047 * 2 ^ 52))
  where
    full : 2047 * 2 ^ 52 ≤ b → b / 2 ^ 52 ≡ 2047
    full g = omega arith

    go : (t : Bool) → (T t → b < 2047 * 2 ^ 52) → (T (not t) → 2047 * 2 ^ 52 ≤ b) → b < 2047 * 2 ^ 52
    go true p q = p tt
    go false p q = absurd (k (full (q tt)))

sign_clear : (b : ℕ) → T (positive (of_bits binary64 b)) → b < 2 ^ 63
unfolding of_bits
sign_clear b t = go (leb (2 ^ 63) b) (nleb→lt (2 ^ 63) b) t
  where
    go : (s : Bool) → (T (not s) → b < 2 ^ 63) → T (positive (of_fields binary64 s (b % 2 ^ 63 / 2 ^ 52) (b % 2 ^ 52))) → b < 2 ^ 63
    go true h t = absurd (not_negative (b % 2 ^ 63 / 2 ^ 52) (b % 2 ^ 52) t)
    go false h t = h tt

-- with the sign clear, the fields are the quotient and the remainder
pub fields_of : (b : ℕ) → b < 2 ^ 63 → of_bits binary64 b ≡ of_fields binary64 false (b / 2 ^ 52) (b % 2 ^ 52)
unfolding of_bits
fields_of b h =
    ap (λ (s : Bool). of_fields binary64 s (b % 2 ^ 63 / 2 ^ 52) (b % 2 ^ 52)) (is_false (leb (2 ^ 63) b) (not_T (leb (2 ^ 63) b) (λ (t : T (leb (2 ^ 63) b)). not-le_of_lt h (leb→le (2 ^ 63) b t))))
    ∙ ap (λ (n : ℕ). of_fields binary64 false (n / 2 ^ 52) (b % 2 ^ 52)) (mod-eq_of_lt h)

pub bits-lt : (b : ℕ) → T (positive (of_bits binary64 b)) → b < 2047 * 2 ^ 52
bits-lt b t =
    let h = sign_clear b t in
    field_lt b h (λ (e : b / 2 ^ 52 ≡ 2047). not_ones (b % 2 ^ 52) (subst (λ (x : ℕ). T (positive (of_fields binary64 false x (b % 2 ^ 52)))) e (rw (fields_of b h) at t)))

-- a normal number: a field from 1 to 2046
pub normal-is : (x d : ℕ) → suc x < 2047 → of_fields binary64 false (suc x) d ≡ odd 53 false (2 ^ 52 + d) x 1074
unfolding of_fields
normal-is x d h = go (eqb (suc x) 2047) (eqb→eq (suc x) 2047)
  where
    go : (b : Bool) → (T b → suc x ≡ 2047) → cond b (cond (eqb d 0) (inf false) nan) (odd 53 false (2 ^ 52 + d) x 1074) ≡ odd 53 false (2 ^ 52 + d) x 1074
    go true k = let e : suc x ≡ 2047 = k tt in absurd (omega arith)
    go false k = refl

pub subnormal_is : (d : ℕ) → of_fields binary64 false 0 d ≡ odd 53 false d 0 1074
unfolding of_fields
subnormal_is d = refl

-- ---- which patterns are a NaN's

-- none whose rest, without the sign's bit, is up to an infinity's
pub number-bits : (b : ℕ) → b % 2 ^ 63 ≤ 2047 * 2 ^ 52 → T (not (nan_bits binary64 b))
number-bits b h = rw (nan_bits_above binary64 b) (not_T (ltb (2047 * 2 ^ 52) (b % 2 ^ 63)) (λ (t : T (ltb (2047 * 2 ^ 52) (b % 2 ^ 63))). not-le_of_lt (ltb→lt (2047 * 2 ^ 52) (b % 2 ^ 63) t) h))

pub no_nan : (b : ℕ) → b ≤ 2047 * 2 ^ 52 → T (not (nan_bits binary64 b))
no_nan b h = number-bits b (omega arith)

-- ---- patterns with the sign clear, below an infinity's

-- a normal number: the digits have a leading one
pub normal : (b : ℕ) → 2 ^ 52 ≤ b → b < 2047 * 2 ^ 52 → of_bits binary64 b ≡ odd 53 false (2 ^ 52 + b % 2 ^ 52) (b / 2 ^ 52 - 1) 1074
normal b h k =
    let f : b / 2 ^ 52 ≡ suc (b / 2 ^ 52 - 1) = omega arith in
    fields_of b (omega arith)
    ∙ ap (λ (x : ℕ). of_fields binary64 false x (b % 2 ^ 52)) f
    ∙ normal-is (b / 2 ^ 52 - 1) (b % 2 ^ 52) (omega arith)

-- a number below the normal ones is its pattern in units of the format's smallest value
pub subnormal : (b : ℕ) → b < 2 ^ 52 → of_bits binary64 b ≡ odd 53 false b 0 1074
subnormal b h =
    let f : b / 2 ^ 52 ≡ 0 = omega arith in
    let g : b % 2 ^ 52 ≡ b = omega arith in
    fields_of b (omega arith)
    ∙ ap (λ (x : ℕ). of_fields binary64 false x (b % 2 ^ 52)) f
    ∙ subnormal_is (b % 2 ^ 52)
    ∙ ap (λ (x : ℕ). odd 53 false x 0 1074) g

-- ---- the pattern of c * 2 ^ k units of the format's smallest value

-- digits beyond the number's own change nothing
zeros-more : (d q : ℕ) → 0 < q → q < 2 ^ d → count_trailing_zeros (suc d) q ≡ count_trailing_zeros d q
unfolding count_trailing_zeros
zeros-more zero q p h = absurd (omega arith)
zeros-more (suc d) q p h = go (q % 2) refl (λ g. zeros-more d (q / 2) g ((div-lt_iff_lt-mul (zero-lt-suc 1)).1 (subst (λ (x : ℕ). q < x) (pow-suc 2 d) h)))
  where
    go : (r : ℕ) → q % 2 ≡ r → (0 < q / 2 → count_trailing_zeros (suc d) (q / 2) ≡ count_trailing_zeros d (q / 2))
        → under r (count_trailing_zeros (suc d) (q / 2)) ≡ under r (count_trailing_zeros d (q / 2))
    go zero e ih = ap suc (ih (omega arith))
    go (suc r) e ih = refl

odd_more : (d : ℕ) (s : Bool) (q k l : ℕ) → 0 < q → q < 2 ^ d → odd (suc d) s q k l ≡ odd d s q k l
unfolding odd
odd_more d s zero k l p h = refl
odd_more d s (suc q) k l p h = ap (λ (t : ℕ). fin s (suc q / 2 ^ t) (minus (k + t) l)) (zeros-more d (suc q) p h)

units_odd : (q k : ℕ) → q < 2 ^ 53 → k ≤ 2045 → units binary64 false q k ≡ odd 54 false q k 1074
unfolding units
units_odd q k h l = yes_of (ltb (q * 2 ^ k) (2 ^ 2098)) (lt→ltb (q * 2 ^ k) (2 ^ 2098) (lt_of_lt_of_le (shl_lt 53 k h) (pow_mono {i = 53 + k} {j = 2098} (omega arith))))
  where
    yes_of : (b : Bool) → T b → cond b (odd 54 false q k 1074) (inf false) ≡ odd 54 false q k 1074
    yes_of true t = refl
    yes_of false t = absurd t

-- c has 53 digits: the leading one adds one to the exponent's field
pub units_bits : (c k : ℕ) → 2 ^ 52 ≤ c → c < 2 ^ 53 → k ≤ 2045 → of_bits binary64 (k * 2 ^ 52 + c) ≡ units binary64 false c k
units_bits c k lo hi l =
    let b = k * 2 ^ 52 + c in
    let e : 2 ^ 52 + b % 2 ^ 52 ≡ c = omega arith in
    let f : b / 2 ^ 52 - 1 ≡ k = omega arith in
    normal b (omega arith) (omega arith)
    ∙ ap (λ (x : ℕ). odd 53 false x (b / 2 ^ 52 - 1) 1074) e
    ∙ ap (λ (x : ℕ). odd 53 false c x 1074) f
    ∙ sym (units_odd c k hi l ∙ odd_more 53 false c k 1074 (omega arith) hi)
