-- States: `split-is`: the k and t of a normal pattern are those of `ln`. Assumes nothing.
use mathlib.Core.Path.{◌≡◌, sym, ap, ap₂, ◌∙◌}
use mathlib.Core.Bool.{Bool, true, false, not, cond}
use Prim.Native.Nat.{ℕ, ◌+◌, ◌-◌, ◌*◌, ◌/◌, ◌%◌, ◌^◌, ◌≤◌, ◌<◌}
use native.Mathlib.Nat.{lt_of_not-le, mul-le-mul_right}
use native.Mathlib.Omega.{arith}
use lib.IntN.{ℤ}
use lib.Count.{count_trailing_zeros}
use lib.Dec.{T, ltb, ltb→lt, nltb→le}
use lib.Pow.{pow-add, pow_pos, pow_mono}
use lib.Ieee.{Float, inf, fin, binary64, minus, odd, of_int, of_bits}
use lib.Ieee.Positive.{first_pos}
use borrow.Author.Tests.{ne_eqb}
use Rattle.doubles.proofs.Exponent.{minus_same, minus_add}
use Rattle.doubles.proofs.Fields.{tz_div, odd_is, normal}
use Rattle.carlson.specs.Logarithm.{binary_places, fraction, exponent, ln_at, ln_by}
use Rattle.special_laws.specs.ArgumentsOfRc.{places-low, places-high}
use Rattle.lanes_ln.specs.LnLanes.{half, scale_of, fraction_of}

-- the pattern with the digits d and the field of 1 or 1/2
fraction_pattern : (d i : ℕ) → d < 2 ^ 52 → i ≤ 1 → of_bits binary64 (d + 1023 * 2 ^ 52 - i * 2 ^ 52) ≡ odd 53 false (2 ^ 52 + d) (1022 - i) 1074
fraction_pattern d i D I =
    let b = d + 1023 * 2 ^ 52 - i * 2 ^ 52 in
    let r : b % 2 ^ 52 ≡ d = omega arith in
    let f : b / 2 ^ 52 - 1 ≡ 1022 - i = omega arith in
    normal b (omega arith) (omega arith) ∙ ap₂ (λ (x y : ℕ). odd 53 false (2 ^ 52 + x) y 1074) r f

module _ (b : ℕ) (lo : 2 ^ 52 ≤ b) (hi : b < 2047 * 2 ^ 52) where
  -- the digits with the leading one, q = m 2^z with m odd; of m, p binary places
  abbrev q : ℕ
  q = 2 ^ 52 + b % 2 ^ 52

  abbrev z : ℕ
  z = count_trailing_zeros 53 q

  abbrev m : ℕ
  m = q / 2 ^ z

  abbrev p : ℕ
  p = binary_places m

  q_pos : 0 < q
  q_pos = omega arith

  m_pos : 0 < m
  m_pos = first_pos m (2 ^ z) (omega (arith, tz_div 53 q, q_pos))

  written : (k : ℕ) → odd 53 false q k 1074 ≡ fin false m (minus (k + z) 1074)
  written k = odd_is 53 false q k 1074 q_pos

  -- 3/4 ≤ m / 2^p < 3/2, times 2^z
  low : 3 * 2 ^ (p + z) ≤ 4 * q
  low =
      let h : 3 * 2 ^ p * 2 ^ z ≤ 4 * m * 2 ^ z = mul-le-mul_right (2 ^ z) (places-low m m_pos) in
      omega (arith, h, pow-add 2 p z, tz_div 53 q)

  high : 2 * q < 3 * 2 ^ (p + z)
  high =
      let h : (2 * m + 1) * 2 ^ z ≤ 3 * 2 ^ p * 2 ^ z = mul-le-mul_right (2 ^ z) (let g = places-high m m_pos in omega arith) in
      omega (arith, h, pow_pos z, pow-add 2 p z, tz_div 53 q)

  more : (j : ℕ) → 3 * 2 ^ j ≤ 2 * q → j < p + z
  more j h = lt_of_not-le (λ (g : p + z ≤ j). let e : 2 ^ (p + z) ≤ 2 ^ j = pow_mono g in omega (arith, high))

  less : (j : ℕ) → 4 * q < 3 * 2 ^ j → p + z < j
  less j h = lt_of_not-le (λ (g : j ≤ p + z). let e : 2 ^ j ≤ 2 ^ (p + z) = pow_mono g in omega (arith, low))

  places : p + z ≡ 52 + half b
  places = go (ltb (b % 2 ^ 52) (2 ^ 51)) (ltb→lt (b % 2 ^ 52) (2 ^ 51)) (nltb→le (b % 2 ^ 52) (2 ^ 51))
    where
      go : (t : Bool) → (T t → b % 2 ^ 52 < 2 ^ 51) → (T (not t) → 2 ^ 51 ≤ b % 2 ^ 52) → p + z ≡ 52 + half b
      go true u v = let s : b % 2 ^ 52 < 2 ^ 51 = u tt in omega (arith, more 51 (omega arith), less 53 (omega arith))
      go false u v = let s : 2 ^ 51 ≤ b % 2 ^ 52 = v tt in omega (arith, more 52 (omega arith), less 54 (omega arith))

  abbrev e : ℤ
  e = minus (b / 2 ^ 52 - 1 + z) 1074

  scale-is : scale_of b ≡ of_int binary64 (exponent m e)
  unfolding scale_of
  scale-is =
      sym (ap (of_int binary64) (minus_add (b / 2 ^ 52 - 1 + z) 1074 p ∙ minus_same (b / 2 ^ 52 - 1 + z + p) 1074 (b / 2 ^ 52 + half b) 1023 (omega (arith, places))))

  fraction-is : fraction_of b ≡ fraction m
  unfolding fraction_of
  fraction-is =
      fraction_pattern (b % 2 ^ 52) (half b) (omega arith) (omega arith) ∙ written (1022 - half b)
      ∙ ap (λ e. fin false m e) (sym (minus_same 0 p (1022 - half b + z) 1074 (omega (arith, places))))

  pub split-is : (R_C : Float → Float → Float) → ln_at R_C (scale_of b) (fraction_of b) ≡ ln_by R_C (of_bits binary64 b)
  unfolding ln_by
  split-is R_C =
      ap₂ (ln_at R_C) scale-is fraction-is
      ∙ sym (ap (ln_by R_C) (normal b lo hi ∙ written (b / 2 ^ 52 - 1))
      ∙ ap (λ (t : Bool). cond t (inf true) (ln_at R_C (of_int binary64 (exponent m e)) (fraction m))) (ne_eqb m 0 (λ h. omega (arith, m_pos))))
