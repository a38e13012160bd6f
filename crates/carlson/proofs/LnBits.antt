-- ln from a bit pattern is ln: the pattern's digits and field are the split of the number into 2^k t. Assumes nothing.
use mathlib.Core.Path.{◌≡◌, sym, ap, ap₂, ◌∙◌, subst}
use Prim.Native.Nat.{ℕ, zero, suc, ◌+◌, ◌-◌, ◌*◌, ◌/◌, ◌%◌, ◌^◌, ◌≤◌, ◌<◌}
use native.Mathlib.Nat.{eq_of_mul-eq-mul_right, one-mul, le_of_suc-le-suc, le_of_lt, le_trans, le_of_eq, lt_of_lt_of_le, lt_irrefl, not-le_of_lt}
use native.Mathlib.Nat.{lt_of_not-le, mul-one, mul_assoc, mul_right_comm, mul-pos, mul-le-mul_right, lt_of_mul-lt-mul_right, le_of_mul-le-mul_right, zero-lt-suc}
use native.Mathlib.Omega.{arith}
use mathlib.Core.Bool.{Bool, true, false, not, cond}
use lib.IntN.{ℤ, pos, ◌+ℤ◌, ◌-ℤ◌, +ℤ_idr}
use lib.Dec.{T, ltb, eqb, ltb→lt, nltb→le, eqb→eq, not_T, lit≤}
use lib.Pow.{pow-add, pow_pos, pow_mono, shl_lt}
use lib.Count.{count_trailing_zeros}
use lib.Ieee.{Float, nan, inf, fin, binary64, up, down, minus, size, odd, of_int, of_bits, to_bits, fits, is_nan}
use lib.Ieee.Bits.{of_bits-to_bits, is_false}
use lib.Ieee.Exact.{HasValue, odd_sign}
use lib.Ieee.Fits.{of_int-fits, odd-fits, down_pos}
use lib.Ieee.Back.{round_whole}
use lib.Ieee.Positive.{positive, first_pos, positive_of_value}
use borrow.Author.Tests.{lt-ltb, le-ltb, le-leb, lt-leb}
use Rattle.doubles.proofs.Value.{unique}
use Rattle.doubles.proofs.Exponent.{minus_same, minus_add, minus_sub}
use Rattle.doubles.proofs.Fields.{tz_div, odd_is, size_is, bits-lt, normal, subnormal}
use Rattle.carlson.specs.Logarithm.{binary_places, exponent, fraction, ln_at, ln_by}
use Rattle.carlson.specs.LogarithmOfBits.{ln_of_bits}

-- ---- q from 2 ^ 52 up and below 2 ^ 53 is r 2 ^ z with r odd: r has 53 - z digits
module _ (q : ℕ) (lo : 2 ^ 52 ≤ q) (hi : q < 2 ^ 53) where
  zeros : ℕ
  zeros = count_trailing_zeros 53 q

  rest : ℕ
  rest = q / 2 ^ count_trailing_zeros 53 q

  product : rest * 2 ^ zeros ≡ q
  unfolding zeros rest
  product = tz_div 53 q

  rest_pos : 0 < rest
  rest_pos = first_pos rest (2 ^ zeros) (lt_of_lt_of_le (pow_pos 52) (le_trans lo (le_of_eq (sym product))))

  zeros-lt : zeros < 53
  zeros-lt = lt_of_not-le (λ (g : 53 ≤ zeros). not-le_of_lt hi (le_trans (pow_mono g) (le_trans (one-le rest (2 ^ zeros) rest_pos) (le_of_eq product))))
    where
      one-le : (r p : ℕ) → 0 < r → p ≤ r * p
      one-le r p h = le_trans (le_of_eq (sym (one-mul p))) (mul-le-mul_right p h)

  split : (c : ℕ) → zeros ≤ c → 2 ^ (c - zeros) * 2 ^ zeros ≡ 2 ^ c
  split c h = sym (pow-add 2 (c - zeros) zeros) ∙ ap (λ (x : ℕ). 2 ^ x) (back c zeros h)
    where
      back : (c z : ℕ) → z ≤ c → c - z + z ≡ c
      back c z h = omega arith

  rest-lo : 2 ^ (52 - zeros) ≤ rest
  rest-lo = le_of_mul-le-mul_right (le_trans (le_of_eq (split 52 (le_of_suc-le-suc zeros-lt))) (le_trans lo (le_of_eq (sym product)))) (pow_pos zeros)

  rest-hi : rest < 2 ^ suc (52 - zeros)
  rest-hi =
      subst (λ (x : ℕ). rest < 2 ^ x) (up zeros zeros-lt)
      (lt_of_mul-lt-mul_right (2 ^ zeros) (subst (λ (x : ℕ). x < 2 ^ (53 - zeros) * 2 ^ zeros) (sym product) (lt_of_lt_of_le hi (le_of_eq (sym (split 53 (le_of_lt zeros-lt)))))))
    where
      up : (z : ℕ) → z < 53 → 53 - z ≡ suc (52 - z)
      up z h = omega arith

  rest-size : size rest ≡ suc (52 - zeros)
  rest-size = size_is rest (52 - zeros) rest-lo rest-hi

  -- 3 * 2 ^ size r and 4 r, each times 2 ^ z
  scaled : 3 * 2 ^ size rest * 2 ^ zeros ≡ 3 * 2 ^ 53
  scaled =
      ap (λ (n : ℕ). 3 * 2 ^ n * 2 ^ zeros) rest-size
      ∙ mul_assoc 3 (2 ^ suc (52 - zeros)) (2 ^ zeros)
      ∙ ap (λ (n : ℕ). 3 * n) (sym (pow-add 2 (suc (52 - zeros)) zeros) ∙ ap (λ (n : ℕ). 2 ^ n) (join zeros zeros-lt))
    where
      join : (z : ℕ) → z < 53 → suc (52 - z) + z ≡ 53
      join z h = omega arith

  four_q : 4 * rest * 2 ^ zeros ≡ 4 * q
  four_q = mul_assoc 4 rest (2 ^ zeros) ∙ ap (λ (n : ℕ). 4 * n) product

  places-low : q < 3 * 2 ^ 51 → binary_places rest ≡ 52 - zeros + 0
  places-low h =
      ap (λ (b : Bool). cond b (size rest) (size rest - 1))
      (lt-leb (3 * 2 ^ size rest) (4 * rest) (lt_of_mul-lt-mul_right (2 ^ zeros) (subst (λ (n : ℕ). n < 3 * 2 ^ size rest * 2 ^ zeros) (sym four_q) (subst (λ (n : ℕ). 4 * q < n) (sym scaled) (small q h)))))
      ∙ ap (λ (n : ℕ). n - 1) rest-size ∙ pred (52 - zeros)
    where
      small : (q : ℕ) → q < 3 * 2 ^ 51 → 4 * q < 3 * 2 ^ 53
      small q h = omega arith

      pred : (n : ℕ) → suc n - 1 ≡ n + 0
      pred n = omega arith

  places-high : 3 * 2 ^ 51 ≤ q → binary_places rest ≡ 52 - zeros + 1
  places-high h =
      ap (λ (b : Bool). cond b (size rest) (size rest - 1))
      (le-leb (3 * 2 ^ size rest) (4 * rest) (le_of_mul-le-mul_right (subst (λ (n : ℕ). 3 * 2 ^ size rest * 2 ^ zeros ≤ n) (sym four_q) (subst (λ (n : ℕ). n ≤ 4 * q) (sym scaled) (large q h))) (pow_pos zeros)))
      ∙ rest-size ∙ next (52 - zeros)
    where
      large : (q : ℕ) → 3 * 2 ^ 51 ≤ q → 3 * 2 ^ 53 ≤ 4 * q
      large q h = omega arith

      next : (n : ℕ) → suc n ≡ n + 1
      next n = omega arith

  written : (k : ℕ) → odd 53 false q k 1074 ≡ fin false rest (minus (k + zeros) 1074)
  unfolding zeros rest
  written k = odd_is 53 false q k 1074 (lt_of_lt_of_le (pow_pos 52) lo)

-- the pattern with digits d and field k + 1
pattern : (k d : ℕ) → k < 2046 → d < 2 ^ 52 → of_bits binary64 (d + (k + 1) * 2 ^ 52) ≡ odd 53 false (2 ^ 52 + d) k 1074
pattern k d K D =
    let b = d + (k + 1) * 2 ^ 52 in
    let r : b % 2 ^ 52 ≡ d = omega arith in
    let f : b / 2 ^ 52 - 1 ≡ k = omega arith in
    normal b (omega arith) (omega arith)
    ∙ ap₂ (λ (x y : ℕ). odd 53 false (2 ^ 52 + x) y 1074) r f

-- what ln's cases and casts ask
pub pos_test : (m : ℕ) → 0 < m → eqb m 0 ≡ false
pos_test m h = is_false (eqb m 0) (not_T (eqb m 0) (λ (t : T (eqb m 0)). lt_irrefl 0 (subst (λ (n : ℕ). 0 < n) (eqb→eq m 0 t) h)))

pub positive-number : (x : Float) → T (positive x) → T (not (is_nan x))
unfolding is_nan
positive-number nan t = absurd t
positive-number (inf s) t = tt
positive-number (fin s m e) t = tt

-- ---- b below 2 ^ 52 as a double
module _ (b : ℕ) (B : 0 < b) (small : b < 2 ^ 52) where
  below_53 : b < 2 ^ 53
  below_53 = omega arith

  of_int_lem : of_int binary64 (pos b) ≡ odd 53 false b 1074 1074
  of_int_lem =
      unique binary64 (of_int binary64 (pos b)) (odd 53 false b 1074 1074) false (b * 2 ^ 1074) (1 * 2 ^ 1074) (mul-pos (zero-lt-suc 0) (pow_pos 1074))
      (of_int-fits binary64 (pos b))
      (odd-fits binary64 53 false b 1074 below_53 (le_of_lt below_53) (lt_of_lt_of_le (shl_lt 53 1074 below_53) (pow_mono {i = 1127} {j = 2098} (lit≤ tt))))
      (scale-value (of_int binary64 (pos b)) false b 1 (2 ^ 1074) value)
      (subst (λ (n : ℕ). HasValue (odd 53 false b 1074 1074) false (b * 2 ^ 1074) n) (sym (one-mul (2 ^ 1074))) (odd_sign 53 false b 1074 1074))
    where
      value : HasValue (of_int binary64 (pos b)) false b 1
      value = unfold of_int in round_whole binary64 false b (le_of_lt below_53)

      scale-value : (x : Float) (s : Bool) (a c k : ℕ) → HasValue x s a c → HasValue x s (a * k) (c * k)
      scale-value nan s a c k h = h
      scale-value (inf t) s a c k h = h
      scale-value (fin t m e) s a c k h = (h.0, sym (mul_assoc (m * up e) c k) ∙ ap (λ (n : ℕ). n * k) h.1 ∙ mul_right_comm a (down e) k)

  int_value : HasValue (of_int binary64 (pos b)) false (b * 2 ^ 1074) (2 ^ 1074)
  int_value = rw of_int_lem (odd_sign 53 false b 1074 1074)

  pub int_positive : T (positive (of_int binary64 (pos b)))
  int_positive = positive_of_value (of_int binary64 (pos b)) (b * 2 ^ 1074) (2 ^ 1074) int_value (mul-pos B (pow_pos 1074))

  -- it is no subnormal number
  int_normal : 2 ^ 52 ≤ to_bits binary64 (of_int binary64 (pos b))
  int_normal = go (ltb n (2 ^ 52)) (ltb→lt n (2 ^ 52)) (nltb→le n (2 ^ 52))
    where
      y : Float
      y = of_int binary64 (pos b)

      n : ℕ
      n = to_bits binary64 y

      same-num : (x : Float) (s : Bool) (a b c : ℕ) → HasValue x s a c → HasValue x s b c → a ≡ b
      same-num nan s a b c h k = absurd h
      same-num (inf t) s a b c h k = absurd h
      same-num (fin t m e) s a b c h k = eq_of_mul-eq-mul_right (down e) (down_pos e) a b (sym h.1 ∙ k.1)

      huge : 2 ^ 52 ≤ b * 2 ^ 1074
      huge = le_trans (pow_mono {i = 52} {j = 1074} (lit≤ tt)) (le_trans (le_of_eq (sym (one-mul (2 ^ 1074)))) (mul-le-mul_right (2 ^ 1074) B))

      low : n < 2 ^ 52 → ⊥
      low h =
          let e : y ≡ odd 53 false n 0 1074 = sym (of_bits-to_bits binary64 y (of_int-fits binary64 (pos b))) ∙ subnormal n h in
          let v : HasValue y false (n * 2 ^ 0) (2 ^ 1074) = subst (λ (x : Float). HasValue x false (n * 2 ^ 0) (2 ^ 1074)) (sym e) (odd_sign 53 false n 0 1074) in
          not-le_of_lt h (le_trans huge (le_of_eq (sym (same-num y false (n * 2 ^ 0) (b * 2 ^ 1074) (2 ^ 1074) v int_value) ∙ mul-one n)))

      go : (t : Bool) → (T t → n < 2 ^ 52) → (T (not t) → 2 ^ 52 ≤ n) → 2 ^ 52 ≤ n
      go true p q = absurd (low (p tt))
      go false p q = q tt

module _ (x : Float) (fit : T (fits binary64 x)) (above : T (positive x)) where
  pub own-bits-lt : to_bits binary64 x < 2047 * 2 ^ 52
  own-bits-lt = bits-lt (to_bits binary64 x) (subst (λ (y : Float). T (positive y)) (sym (of_bits-to_bits binary64 x fit)) above)

  module _ (low : to_bits binary64 x < 2 ^ 52) where
    is-low : x ≡ odd 53 false (to_bits binary64 x) 0 1074
    is-low = sym (of_bits-to_bits binary64 x fit) ∙ subnormal (to_bits binary64 x) low

    pub low_pos : 0 < to_bits binary64 x
    low_pos = above-none (to_bits binary64 x) (subst (λ (y : Float). T (positive y)) is-low above)
      where
        above-none : (n : ℕ) → T (positive (odd 53 false n 0 1074)) → 0 < n
        above-none zero t = unfold odd in absurd t
        above-none (suc n) t = zero-lt-suc n

-- the pattern of a subnormal number as a double
pub int_bits-lt : (x : Float) (fit : T (fits binary64 x)) (above : T (positive x)) → to_bits binary64 x < 2 ^ 52 → to_bits binary64 (of_int binary64 (pos (to_bits binary64 x))) < 2047 * 2 ^ 52
int_bits-lt x fit above low =
    own-bits-lt (of_int binary64 (pos (to_bits binary64 x))) (of_int-fits binary64 (pos (to_bits binary64 x))) (int_positive (to_bits binary64 x) (low_pos x fit above low) low)

-- ---- over any R_C
module _ (R_C : Float → Float → Float) where
  abbrev at : ℤ → Float → Float
  at k t = ln_at R_C (of_int binary64 k) t

  -- ln of 2 ^ -h times a number
  shifted : ℕ → Float → Float
  shifted h nan = nan
  shifted h (inf s) = nan
  shifted h (fin s m e) = at (exponent m e -ℤ pos h) (fraction m)

  -- ---- a number with the digits d and the field F + 1; i is 1 where t is below 1
  module _ (F d h i : ℕ) (D : d < 2 ^ 52) (I : i ≤ 1) where
    abbrev q : ℕ
    q = 2 ^ 52 + d

    lo : 2 ^ 52 ≤ q
    lo = omega arith

    hi : q < 2 ^ 53
    hi = omega arith

    abbrev r : ℕ
    r = rest q lo hi

    abbrev z : ℕ
    z = zeros q lo hi

    t_is : binary_places r ≡ 52 - z + i → fraction r ≡ of_bits binary64 (d + (1023 - i) * 2 ^ 52)
    t_is e =
        ap (λ (p : ℕ). fin false r (minus 0 p)) e
        ∙ ap (λ (e : ℤ). fin false r e) (minus_same 0 (52 - z + i) (1022 - i + z) 1074 (fit z (zeros-lt q lo hi)))
        ∙ sym (written q lo hi (1022 - i))
        ∙ sym (pattern (1022 - i) d (omega arith) D)
        ∙ ap (λ (f : ℕ). of_bits binary64 (d + f * 2 ^ 52)) (omega arith)
      where
        fit : (z : ℕ) → z < 53 → 0 + 1074 ≡ 1022 - i + z + (52 - z + i)
        fit z h = omega arith

    k_is : binary_places r ≡ 52 - z + i → exponent r (minus (F + z) 1074) -ℤ pos h ≡ minus (suc F + i) (1023 + h)
    k_is e =
        ap (λ (p : ℕ). minus (F + z) 1074 +ℤ pos p -ℤ pos h) e
        ∙ ap (λ (k : ℤ). k -ℤ pos h) (minus_add (F + z) 1074 (52 - z + i))
        ∙ minus_sub (F + z + (52 - z + i)) 1074 h
        ∙ minus_same (F + z + (52 - z + i)) (1074 + h) (suc F + i) (1023 + h) (fit z (zeros-lt q lo hi))
      where
        fit : (z : ℕ) → z < 53 → F + z + (52 - z + i) + (1023 + h) ≡ suc F + i + (1074 + h)
        fit z g = omega arith

    split-is : binary_places r ≡ 52 - z + i → at (minus (suc F + i) (1023 + h)) (of_bits binary64 (d + (1023 - i) * 2 ^ 52)) ≡ shifted h (odd 53 false q F 1074)
    unfolding shifted
    split-is e = ap₂ at (sym (k_is e)) (sym (t_is e)) ∙ ap (shifted h) (sym (written q lo hi F))

  -- ---- a normal pattern
  pub low_bits : (b bias : ℕ) → b % 2 ^ 52 < 2 ^ 51 → at (minus (b / 2 ^ 52) bias) (of_bits binary64 (b % 2 ^ 52 + 1023 * 2 ^ 52)) ≡ ln_of_bits R_C b bias
  unfolding ln_of_bits
  low_bits b bias h = simp (lt-ltb (b % 2 ^ 52) (2 ^ 51) h)

  pub high_bits : (b bias : ℕ) → 2 ^ 51 ≤ b % 2 ^ 52 → at (minus (b / 2 ^ 52 + 1) bias) (of_bits binary64 (b % 2 ^ 52 + 1022 * 2 ^ 52)) ≡ ln_of_bits R_C b bias
  unfolding ln_of_bits
  high_bits b bias h = simp (le-ltb (b % 2 ^ 52) (2 ^ 51) h)

  normal-ln : (b h : ℕ) → 2 ^ 52 ≤ b → b < 2047 * 2 ^ 52 → ln_of_bits R_C b (1023 + h) ≡ shifted h (of_bits binary64 b)
  normal-ln b h l u = go (ltb d (2 ^ 51)) (ltb→lt d (2 ^ 51)) (nltb→le d (2 ^ 51)) ∙ ap (shifted h) (sym (normal b l u))
    where
      d : ℕ
      d = b % 2 ^ 52

      F : ℕ
      F = b / 2 ^ 52 - 1

      D : d < 2 ^ 52
      D = omega arith

      go : (t : Bool) → (T t → d < 2 ^ 51) → (T (not t) → 2 ^ 51 ≤ d) → ln_of_bits R_C b (1023 + h) ≡ shifted h (odd 53 false (2 ^ 52 + d) F 1074)
      go true p q =
          let s : d < 2 ^ 51 = p tt in
          sym (low_bits b (1023 + h) s)
          ∙ ap (λ (x : ℕ). at (minus x (1023 + h)) (of_bits binary64 (d + 1023 * 2 ^ 52))) (omega arith)
          ∙ split-is F d h 0 D (omega arith) (places-low (2 ^ 52 + d) (lo F d h 0 D (omega arith)) (hi F d h 0 D (omega arith)) (omega arith))
      go false p q =
          let s : 2 ^ 51 ≤ d = q tt in
          sym (high_bits b (1023 + h) s)
          ∙ ap (λ (x : ℕ). at (minus x (1023 + h)) (of_bits binary64 (d + 1022 * 2 ^ 52))) (omega arith)
          ∙ split-is F d h 1 D (omega arith) (places-high (2 ^ 52 + d) (lo F d h 1 D (omega arith)) (hi F d h 1 D (omega arith)) (omega arith))

  -- ---- a number that is finite and above zero, by its own pattern
  shifted-zero : (x : Float) → T (positive x) → shifted 0 x ≡ ln_by R_C x
  unfolding shifted ln_by
  shifted-zero nan t = absurd t
  shifted-zero (inf s) t = absurd t
  shifted-zero (fin true m e) t = absurd t
  shifted-zero (fin false m e) t =
      ap (λ (k : ℤ). at k (fraction m)) (+ℤ_idr (exponent m e))
      ∙ ap (λ (b : Bool). cond b (inf true) (at (exponent m e) (fraction m))) (sym (pos_test m (ltb→lt 0 m t)))

  -- b units of 2 ^ -1074, and b itself: the same digits, 1074 places higher
  int_shifted : (b : ℕ) → 0 < b → b < 2 ^ 52 → shifted 1074 (of_int binary64 (pos b)) ≡ shifted 0 (odd 53 false b 0 1074)
  unfolding shifted
  int_shifted b B small =
      let t = count_trailing_zeros 53 b in
      let r = b / 2 ^ t in
      ap (shifted 1074) (of_int_lem b B small ∙ odd_is 53 false b 1074 1074 B)
      ∙ ap (λ (k : ℤ). at k (fraction r)) (same t (binary_places r))
      ∙ ap (shifted 0) (sym (odd_is 53 false b 0 1074 B))
    where
      same : (t p : ℕ) → minus (1074 + t) 1074 +ℤ pos p -ℤ pos 1074 ≡ minus (0 + t) 1074 +ℤ pos p -ℤ pos 0
      same t p =
          ap (λ (i : ℤ). i -ℤ pos 1074) (minus_add (1074 + t) 1074 p) ∙ minus_sub (1074 + t + p) 1074 1074
          ∙ minus_same (1074 + t + p) (1074 + 1074) (0 + t + p) (1074 + 0) (omega arith)
          ∙ sym (ap (λ (i : ℤ). i -ℤ pos 0) (minus_add (0 + t) 1074 p) ∙ minus_sub (0 + t + p) 1074 0)

  module _ (x : Float) (fit : T (fits binary64 x)) (above : T (positive x)) where
    pub ln-normal : 2 ^ 52 ≤ to_bits binary64 x → ln_of_bits R_C (to_bits binary64 x) 1023 ≡ ln_by R_C x
    ln-normal h = normal-ln (to_bits binary64 x) 0 h (own-bits-lt x fit above) ∙ ap (shifted 0) (of_bits-to_bits binary64 x fit) ∙ shifted-zero x above

    pub ln_subnormal : to_bits binary64 x < 2 ^ 52 → ln_of_bits R_C (to_bits binary64 (of_int binary64 (pos (to_bits binary64 x)))) 2097 ≡ ln_by R_C x
    ln_subnormal low =
        let b = to_bits binary64 x in
        let y = of_int binary64 (pos b) in
        let p = low_pos x fit above low in
        normal-ln (to_bits binary64 y) 1074 (int_normal b p low) (int_bits-lt x fit above low)
        ∙ ap (shifted 1074) (of_bits-to_bits binary64 y (of_int-fits binary64 (pos b)))
        ∙ int_shifted b p low
        ∙ ap (shifted 0) (sym (is-low x fit above low))
        ∙ shifted-zero x above
