-- How a fraction is rounded to 53 binary digits. States: `rounded`: what `round` keeps of a / b is within half a step of it (`RoundedFraction`); `above_midpoint` and
-- `below_midpoint`: where there is no tie, a / b is on the kept number's side of the number halfway to any other number of 53 digits, finer ones just below a power
-- of two among them. Nothing here is about floats. Assumes nothing.
use Rattle.std.specs.Prelude.{◌≡◌, ◌⊎◌, not, T}
use Rattle.std.proofs.Common.{sym, ap, ◌∙◌, subst, inl, inr, le_trans, le_of_eq, lt_of_lt_of_le, lt_of_le_of_lt, lt_of_not-le, mul_assoc, mul-pos, mod-lt, div-add-mod', le-div_iff_mul-le, mul-le-mul_right, mul-lt-mul_of_pos_right, lt_of_mul-lt-mul_right, arith, leb→le, eqb→eq, pow_pos, pow-add, pow_mono, shl_lt}
use Prim.Native.Nat.{ℕ, suc, ◌+◌, ◌-◌, ◌*◌, ◌/◌, ◌%◌, ◌^◌, ◌≤◌, ◌<◌, zero-le, compare, Ordering}
use Rattle.std.proofs.Math.Numerals.{lt_of_le_of_ne}
use Rattle.std.proofs.Math.Decide.{dec_le}
use Rattle.std.proofs.Math.Dec.{is_le, compare_is_eq, nleb→lt}
use Rattle.std.specs.Float.Ieee.{nearest}
use Rattle.std.specs.Float.Ieee.Digits.{size_reaches}
use Rattle.std.specs.Float.Ieee.Nearest.{nearest-ge, closest}
use Rattle.std.specs.Float.Ieee.Order.{drop, kept}
use Rattle.std.specs.Float.Ieee.Positive.{first_pos}

pub record RoundedFraction (a b c k : ℕ) : Type 0 where
  -- a / b is within half a step of c * 2 ^ k
  pub low : 2 * c * (b * 2 ^ k) ≤ 2 * a + b * 2 ^ k
  pub high : 2 * a ≤ 2 * c * (b * 2 ^ k) + b * 2 ^ k
  -- where digits are dropped, c has 53 digits, and so has a / b before it is rounded
  pub finest : 0 < k → (2 ^ 52 ≤ c) × (2 ^ 52 * (b * 2 ^ k) ≤ a)

-- ---- the three cases of the comparison. u is the divisor, q the quotient and r what is left over

abbrev WithinHalf : ℕ → ℕ → ℕ → Type 0
WithinHalf a u c = (2 * c * u ≤ 2 * a + u) × (2 * a ≤ 2 * c * u + u)

within_half : (a u q r : ℕ) → q * u + r ≡ a → r < u → (o : Ordering)
    → (T (is_le o) → r * 2 ≤ u) → (T (not (is_le o)) → u < r * 2) → (T (compare_is_eq o) → r * 2 ≡ u) → WithinHalf a u (nearest q o)
within_half a u q r e l Ordering.lt f g h = let i = f tt in (omega arith, omega arith)
within_half a u q r e l Ordering.eq f g h =
    let i = h tt in
    let t : q % 2 * u ≤ 1 * u = mul-le-mul_right u (omega arith) in
    (omega arith, omega arith)
within_half a u q r e l Ordering.gt f g h =
    let i = g tt in
    let t : suc q * u ≡ (q + 1) * u = ap (λ (x : ℕ). x * u) (omega arith) in
    (omega arith, omega arith)

closest_within : (a u : ℕ) → 0 < u → WithinHalf a u (closest a u)
closest_within a u p = within_half a u (a / u) (a % u) (div-add-mod' a u) (mod-lt a p) (compare (a % u * 2) u) (leb→le (a % u * 2) u) (nleb→lt (a % u * 2) u) (eqb→eq (a % u * 2) u)

pub rounded : (a b : ℕ) → 0 < b → RoundedFraction a b (kept 53 a b) (drop 53 a b)
rounded a b p =
    let u = b * 2 ^ drop 53 a b in
    let P : 0 < u = mul-pos p (pow_pos (drop 53 a b)) in
    let w = closest_within a u P in
    record { low = w.0; high = w.1; finest = λ l. (le_trans ((le-div_iff_mul-le P).1 (reached l)) (nearest-ge (a / u) (compare (a % u * 2) u)), reached l) }
  where
    reached : 0 < drop 53 a b → 2 ^ 52 * (b * 2 ^ drop 53 a b) ≤ a
    reached l =
        let k = drop 53 a b in
        let g : 2 ^ 52 * 2 ^ k ≤ a / b = subst (λ (x : ℕ). x ≤ a / b) (pow-add 2 52 k) (size_reaches (a / b) (52 + k) (omega arith)) in
        let h = (le-div_iff_mul-le p).0 g in
        omega arith

-- ---- a number of 53 digits is a multiple of 2 ^ k, or below all that have 53 digits and are such multiples

multiple_or_below : (p j k : ℕ) → p < 2 ^ 53 → ((x : ℕ) × (p * 2 ^ j ≡ x * 2 ^ k)) ⊎ ((0 < k) × (p * 2 ^ j < 2 ^ 52 * 2 ^ k))
multiple_or_below p j k l = either (dec_le k j)
  where
    either : Dec (k ≤ j) → ((x : ℕ) × (p * 2 ^ j ≡ x * 2 ^ k)) ⊎ ((0 < k) × (p * 2 ^ j < 2 ^ 52 * 2 ^ k))
    either (yes h) =
        let e : j ≡ j - k + k = omega arith in
        inl (p * 2 ^ (j - k), ap (λ (z : ℕ). p * 2 ^ z) e ∙ ap (λ (z : ℕ). p * z) (pow-add 2 (j - k) k) ∙ sym (mul_assoc p (2 ^ (j - k)) (2 ^ k)))
    either (no g) =
        let h = lt_of_not-le g in
        inr (omega arith, lt_of_lt_of_le (shl_lt 53 j l) (le_trans (pow_mono {i = 53 + j} {j = 52 + k} (omega arith)) (le_of_eq (pow-add 2 52 k))))

-- ---- the kept number R = c * 2 ^ k, another number Y = p * 2 ^ j, and the number halfway between them

-- a tie would make 2 a / b an odd multiple of 2 ^ k, of 53 digits at least where digits are dropped
abbrev pub NoTie : ℕ → ℕ → ℕ → Type 0
NoTie a b k = (z : ℕ) → z % 2 ≡ 1 → (0 < k → 2 ^ 53 ≤ z + 1) → 2 * a ≡ z * (b * 2 ^ k) → ⊥

module _ (a b c k : ℕ) (pb : 0 < b) (r : RoundedFraction a b c k) (n : NoTie a b k) (p j : ℕ) (l : p < 2 ^ 53) where
  abbrev R : ℕ
  R = c * 2 ^ k

  abbrev Y : ℕ
  Y = p * 2 ^ j

  step_above : R < Y → R + 2 ^ k ≤ Y
  step_above h = go (multiple_or_below p j k l)
    where
      go : ((x : ℕ) × (Y ≡ x * 2 ^ k)) ⊎ ((0 < k) × (Y < 2 ^ 52 * 2 ^ k)) → R + 2 ^ k ≤ Y
      go (inl e) =
          let m : c < e.0 = lt_of_mul-lt-mul_right (2 ^ k) (lt_of_lt_of_le h (le_of_eq e.1)) in
          let g : (c + 1) * 2 ^ k ≤ e.0 * 2 ^ k = mul-le-mul_right (2 ^ k) (omega arith) in
          omega arith
      go (inr e) = let g : 2 ^ 52 * 2 ^ k ≤ R = mul-le-mul_right (2 ^ k) (r.finest e.0).0 in absurd (omega arith)

  pub above_midpoint : R < Y → 2 * a < (R + Y) * b
  above_midpoint h =
      let s : 2 * a < 2 * c * (b * 2 ^ k) + b * 2 ^ k = lt_of_le_of_ne r.high (λ e. n (2 * c + 1) (omega arith) (λ q. let f = (r.finest q).0 in omega arith) (omega arith)) in
      let g : (R + 2 ^ k) * b ≤ Y * b = mul-le-mul_right b (step_above h) in
      omega arith

  step_below : Y < R → (Y + 2 ^ k ≤ R) ⊎ (R * b ≤ a)
  step_below h = go (multiple_or_below p j k l)
    where
      finer : 0 < k → Y < 2 ^ 52 * 2 ^ k → Dec (c ≤ 2 ^ 52) → (Y + 2 ^ k ≤ R) ⊎ (R * b ≤ a)
      finer q y (yes g) =
          let f = r.finest q in
          let e : c * (b * 2 ^ k) ≤ 2 ^ 52 * (b * 2 ^ k) = mul-le-mul_right (b * 2 ^ k) g in
          inr (let i = f.1 in omega arith)
      finer q y (no g) =
          let m : 2 ^ 52 < c = lt_of_not-le g in
          let e : (2 ^ 52 + 1) * 2 ^ k ≤ R = mul-le-mul_right (2 ^ k) (omega arith) in
          inl (omega arith)

      go : ((x : ℕ) × (Y ≡ x * 2 ^ k)) ⊎ ((0 < k) × (Y < 2 ^ 52 * 2 ^ k)) → (Y + 2 ^ k ≤ R) ⊎ (R * b ≤ a)
      go (inl e) =
          let m : e.0 < c = lt_of_mul-lt-mul_right (2 ^ k) (lt_of_le_of_lt (le_of_eq (sym e.1)) h) in
          let g : (e.0 + 1) * 2 ^ k ≤ R = mul-le-mul_right (2 ^ k) (omega arith) in
          inl (let i = e.1 in omega arith)
      go (inr e) = finer e.0 e.1 (dec_le c (2 ^ 52))

  pub below_midpoint : Y < R → (R + Y) * b < 2 * a
  below_midpoint h = go (step_below h)
    where
      -- c is not 0
      one_less : c ≡ c - 1 + 1
      one_less = let q : 0 < c = first_pos c (2 ^ k) (lt_of_le_of_lt zero-le h) in omega arith

      go : (Y + 2 ^ k ≤ R) ⊎ (R * b ≤ a) → (R + Y) * b < 2 * a
      go (inl e) =
          let u : c * (b * 2 ^ k) ≡ (c - 1 + 1) * (b * 2 ^ k) = ap (λ (x : ℕ). x * (b * 2 ^ k)) one_less in
          let o = one_less in
          let s : 2 * c * (b * 2 ^ k) < 2 * a + b * 2 ^ k = lt_of_le_of_ne r.low (λ t. n (2 * (c - 1) + 1) (omega arith) (λ q. let f = (r.finest q).0 in omega arith) (omega arith)) in
          let g : (Y + 2 ^ k) * b ≤ R * b = mul-le-mul_right b e in
          omega arith
      go (inr e) = let g : Y * b < R * b = mul-lt-mul_of_pos_right h pb in omega arith
