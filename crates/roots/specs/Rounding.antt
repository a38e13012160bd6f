-- How `root_of` rounds √n. States: `root_of_rounded`: it rounds to c * 2 ^ k, with √n from (c - 1/2) * 2 ^ k to (c + 1/2) * 2 ^ k (`RoundedRoot`); `nearest_above` and
-- `nearest_below`: √n is on c * 2 ^ k's side of the number halfway to any other number of 53 digits; `root_ge` and `root_le`: c * 2 ^ k is on the same side of such
-- a number as √n. Assumes nothing.
use Rattle.std.specs.Prelude.{◌≡◌, ℕ, zero, suc, ◌+◌, ◌-◌, ◌*◌, ◌/◌, ◌%◌, ◌^◌, ◌<◌, ◌≤◌, false, not, T, ◌⊎◌}
use Rattle.std.proofs.Math.Path.{refl, subst}
use Rattle.std.proofs.Common.{sym, ap, ◌∙◌, inl, inr, ⊎_elim, le_of_eq, le_of_lt, lt_of_lt_of_le, lt_of_le_of_lt, lt_of_not-le, mul-le-mul_left, mul-le-mul_right, mul-lt-mul_of_pos_right, lt_of_mul-lt-mul_right, mul_assoc, le-div_iff_mul-le, leb→le, eqb→eq, pow_pos, pow-add, pow_mono, shl_lt}
use Prim.Native.Nat.{compare, Ordering}
use Rattle.std.proofs.Math.Nat.{le_trans, mul-le-mul, mul-lt-mul_of_pos_left, div-mul-le_self, lt-div-mul-add}
use native.Mathlib.Omega.{arith}
use Rattle.std.proofs.Math.Decide.{dec_le}
use Rattle.std.proofs.Math.Dec.{is_le, compare_is_eq, nleb→lt}
use Rattle.std.specs.Float.{binary64}
use Rattle.std.specs.Float.Ieee.{size, nearest, units}
use Rattle.std.specs.Float.Ieee.Digits.{size_reaches}
use Rattle.std.specs.Float.Ieee.Fits.{kept-lt, nearest-le}
use Rattle.std.specs.Float.Ieee.Nearest.{nearest-ge}
use Rattle.roots.specs.Root.{isqrt, root_of}
use Rattle.roots.specs.WholeRoot.{isqrt_law}

-- (x * P)², P being 2 ^ k: to compare, all is doubled and squared
abbrev pub sq : ℕ → ℕ → ℕ
sq P x = x * P * (x * P)

pub record RoundedRoot (n c k : ℕ) : Type 0 where
  -- √n is within half a step of c * 2 ^ k
  pub low : sq (2 ^ k) (2 * c - 1) ≤ 4 * n
  pub high : 4 * n ≤ sq (2 ^ k) (2 * c + 1)
  -- c has at most 53 digits, or is 2 ^ 53
  pub at-most_53_digits : c ≤ 2 ^ 53
  -- c has 53 digits, and so has √n before it is rounded, or 2 ^ k is the format's smallest value
  pub finest : ((2 ^ 52 ≤ c) × (sq (2 ^ k) (2 ^ 52) ≤ n)) ⊎ (k ≡ 0)

-- ---- squares

sq-le : (P x y : ℕ) → x ≤ y → sq P x ≤ sq P y
sq-le P x y h = let g : x * P ≤ y * P = mul-le-mul_right P h in mul-le-mul g g

-- ---- the three cases of the comparison: √n is within half a step of c. D is 4 * n

HalfStepAround : ℕ → ℕ → ℕ → Type 0
HalfStepAround P D c = (sq P (2 * c - 1) ≤ D) × (D ≤ sq P (2 * c + 1))

module _ (P D q : ℕ) (lo : sq P (2 * q) ≤ D) (hi : D < sq P (2 * q + 2)) where
  half_step_around : (o : Ordering) → (T (is_le o) → D ≤ sq P (2 * q + 1)) → (T (not (is_le o)) → sq P (2 * q + 1) < D) → (T (compare_is_eq o) → D ≡ sq P (2 * q + 1)) → HalfStepAround P D (nearest q o)
  unfolding HalfStepAround
  half_step_around Ordering.lt a b e = (le_trans (sq-le P (2 * q - 1) (2 * q) (omega arith)) lo, a tt)
  half_step_around Ordering.eq a b e =
      let h = e tt in (
        le_trans (sq-le P (2 * (q + q % 2) - 1) (2 * q + 1) (omega arith)) (le_of_eq (sym h)),
        le_trans (le_of_eq h) (sq-le P (2 * q + 1) (2 * (q + q % 2) + 1) (omega arith)),
      )
  half_step_around Ordering.gt a b e = (
    le_trans (sq-le P (2 * suc q - 1) (2 * q + 1) (omega arith)) (le_of_lt (b tt)),
    le_trans (le_of_lt hi) (sq-le P (2 * q + 2) (2 * suc q + 1) (omega arith)),
  )

-- ---- the root's whole part, the leading digits of it that are kept, how many are dropped, and how √n compares with the number halfway

module _ (n : ℕ) where
  whole_root : ℕ
  whole_root = isqrt n

  dropped : ℕ
  unfolding whole_root
  dropped = size whole_root - 53

  kept : ℕ
  unfolding dropped whole_root
  kept = whole_root / 2 ^ dropped

  comparison : Ordering
  unfolding kept dropped whole_root
  comparison = compare (4 * n) (sq (2 ^ dropped) (2 * kept + 1))

  kept_low : sq (2 ^ dropped) (2 * kept) ≤ 4 * n
  unfolding kept dropped whole_root
  kept_low =
      let a : kept * 2 ^ dropped ≤ whole_root = div-mul-le_self whole_root (2 ^ dropped) in
      let b : kept * 2 ^ dropped * (kept * 2 ^ dropped) ≤ whole_root * whole_root = mul-le-mul a a in
      let r = (isqrt_law n).0 in
      omega arith

  kept_high : 4 * n < sq (2 ^ dropped) (2 * kept + 2)
  unfolding kept dropped whole_root
  kept_high =
      let a : whole_root < kept * 2 ^ dropped + 2 ^ dropped = lt-div-mul-add (pow_pos dropped) in
      let b : whole_root + 1 ≤ (kept + 1) * 2 ^ dropped = omega arith in
      let d : (whole_root + 1) * (whole_root + 1) ≤ (kept + 1) * 2 ^ dropped * ((kept + 1) * 2 ^ dropped) = mul-le-mul b b in
      let r = (isqrt_law n).1 in
      omega arith

  kept-finest : ((2 ^ 52 ≤ nearest kept comparison) × (sq (2 ^ dropped) (2 ^ 52) ≤ n)) ⊎ (dropped ≡ 0)
  unfolding comparison kept dropped whole_root
  kept-finest = go (size whole_root - 53) refl
    where
      reached : (z : ℕ) → size whole_root - 53 ≡ suc z → 2 ^ 52 * 2 ^ dropped ≤ whole_root
      reached z e = subst (λ (x : ℕ). x ≤ whole_root) (pow-add 2 52 dropped) (size_reaches whole_root (52 + dropped) (omega arith))

      go : (z : ℕ) → size whole_root - 53 ≡ z → ((2 ^ 52 ≤ nearest kept comparison) × (sq (2 ^ dropped) (2 ^ 52) ≤ n)) ⊎ (dropped ≡ 0)
      go zero e = inr e
      go (suc z) e =
          let r = reached z e in
          inl (le_trans ((le-div_iff_mul-le (pow_pos dropped)).1 r) (nearest-ge kept comparison), le_trans (mul-le-mul r r) (isqrt_law n).0)

-- the root of n is c * 2 ^ k units
pub root_of_rounded : (n : ℕ) → (c : ℕ) × (k : ℕ) × (root_of n ≡ units binary64 false c k) × RoundedRoot n c k
unfolding root_of comparison kept dropped whole_root HalfStepAround
root_of_rounded n =
    let b = sq (2 ^ dropped n) (2 * kept n + 1) in
    let e = half_step_around (2 ^ dropped n) (4 * n) (kept n) (kept_low n) (kept_high n) (comparison n) (leb→le (4 * n) b) (nleb→lt (4 * n) b) (eqb→eq (4 * n) b) in
    (nearest (kept n) (comparison n), dropped n, refl, record { low = e.0; high = e.1; at-most_53_digits = le_trans (nearest-le (kept n) (comparison n)) (kept-lt 53 (whole_root n)); finest = kept-finest n })

-- ---- every other number of 53 digits, `other` = p * 2 ^ j, is at least a step away, or √n is no less than c * 2 ^ k

module _ (n c k p j : ℕ) (r : RoundedRoot n c k) (p-lt : p < 2 ^ 53) where
  abbrev other : ℕ
  other = p * 2 ^ j

  -- a multiple of 2 ^ k
  split : k ≤ j → other ≡ p * 2 ^ (j - k) * 2 ^ k
  split h = let e : j ≡ j - k + k = omega arith in ap (λ (z : ℕ). p * 2 ^ z) e ∙ ap (λ (z : ℕ). p * z) (pow-add 2 (j - k) k) ∙ sym (mul_assoc p (2 ^ (j - k)) (2 ^ k))

  -- or below all that have 53 digits
  under : j < k → other < 2 ^ 52 * 2 ^ k
  under h = lt_of_lt_of_le (shl_lt 53 j p-lt) (le_trans (pow_mono {i = 53 + j} {j = 52 + k} (omega arith)) (le_of_eq (pow-add 2 52 k)))

  step_up : (x : ℕ) → c * 2 ^ k < x * 2 ^ k → c * 2 ^ k + 2 ^ k ≤ x * 2 ^ k
  step_up x h =
      let l : c < x = lt_of_mul-lt-mul_right (2 ^ k) h in
      let g : (c + 1) * 2 ^ k ≤ x * 2 ^ k = mul-le-mul_right (2 ^ k) (omega arith) in
      omega arith

  step_down : (x : ℕ) → x * 2 ^ k < c * 2 ^ k → x * 2 ^ k + 2 ^ k ≤ c * 2 ^ k
  step_down x h =
      let l : x < c = lt_of_mul-lt-mul_right (2 ^ k) h in
      let g : (x + 1) * 2 ^ k ≤ c * 2 ^ k = mul-le-mul_right (2 ^ k) (omega arith) in
      omega arith

  pub above_step : c * 2 ^ k < other → c * 2 ^ k + 2 ^ k ≤ other
  above_step h = either (dec_le k j)
    where
      coarser : j < k → ((2 ^ 52 ≤ c) × (sq (2 ^ k) (2 ^ 52) ≤ n)) ⊎ (k ≡ 0) → ⊥
      coarser l (inl f) = let g : 2 ^ 52 * 2 ^ k ≤ c * 2 ^ k = mul-le-mul_right (2 ^ k) f.0 in let u = under l in omega arith
      coarser l (inr e) = omega arith

      either : Dec (k ≤ j) → c * 2 ^ k + 2 ^ k ≤ other
      either (yes l) = let e = split l in le_trans (step_up (p * 2 ^ (j - k)) (lt_of_lt_of_le h (le_of_eq e))) (le_of_eq (sym e))
      either (no g) = absurd (coarser (lt_of_not-le g) r.finest)

  pub below_step : other < c * 2 ^ k → (other + 2 ^ k ≤ c * 2 ^ k) ⊎ (c * 2 ^ k * (c * 2 ^ k) ≤ n)
  below_step h = either (dec_le k j)
    where
      a_step_below : j < k → 2 ^ 52 < c → other + 2 ^ k ≤ c * 2 ^ k
      a_step_below l g = let f : (2 ^ 52 + 1) * 2 ^ k ≤ c * 2 ^ k = mul-le-mul_right (2 ^ k) (omega arith) in let u = under l in omega arith

      no_less_squared : c ≡ 2 ^ 52 → sq (2 ^ k) (2 ^ 52) ≤ n → c * 2 ^ k * (c * 2 ^ k) ≤ n
      no_less_squared e g = subst (λ (x : ℕ). x * 2 ^ k * (x * 2 ^ k) ≤ n) (sym e) g

      by_digits : j < k → 2 ^ 52 ≤ c → sq (2 ^ k) (2 ^ 52) ≤ n → Dec (c ≤ 2 ^ 52) → (other + 2 ^ k ≤ c * 2 ^ k) ⊎ (c * 2 ^ k * (c * 2 ^ k) ≤ n)
      by_digits l a b (yes g) = inr (no_less_squared (omega arith) b)
      by_digits l a b (no g) = inl (a_step_below l (lt_of_not-le g))

      coarser : j < k → ((2 ^ 52 ≤ c) × (sq (2 ^ k) (2 ^ 52) ≤ n)) ⊎ (k ≡ 0) → (other + 2 ^ k ≤ c * 2 ^ k) ⊎ (c * 2 ^ k * (c * 2 ^ k) ≤ n)
      coarser l (inl f) = by_digits l f.0 f.1 (dec_le c (2 ^ 52))
      coarser l (inr e) = absurd (omega arith)

      either : Dec (k ≤ j) → (other + 2 ^ k ≤ c * 2 ^ k) ⊎ (c * 2 ^ k * (c * 2 ^ k) ≤ n)
      either (yes l) = let e = split l in inl (subst (λ (x : ℕ). x + 2 ^ k ≤ c * 2 ^ k) (sym e) (step_down (p * 2 ^ (j - k)) (lt_of_le_of_lt (le_of_eq (sym e)) h)))
      either (no g) = coarser (lt_of_not-le g) r.finest

-- ---- so √n is on c * 2 ^ k's side of the number halfway to p * 2 ^ j

module _ (n c k : ℕ) (r : RoundedRoot n c k) where
  abbrev rounded : ℕ
  rounded = c * 2 ^ k

  pub nearest_above : (p j : ℕ) → p < 2 ^ 53 → rounded < p * 2 ^ j → sq (2 ^ k) (2 * c + 1) ≤ (rounded + p * 2 ^ j) * (rounded + p * 2 ^ j)
  nearest_above p j l h =
      let g = above_step n c k p j r l h in
      let f : (2 * c + 1) * 2 ^ k ≤ rounded + p * 2 ^ j = omega arith in
      mul-le-mul f f

  pub nearest_below : (p j : ℕ) → p < 2 ^ 53 → p * 2 ^ j < rounded → ((rounded + p * 2 ^ j) * (rounded + p * 2 ^ j) ≤ sq (2 ^ k) (2 * c - 1)) ⊎ ((rounded + p * 2 ^ j) * (rounded + p * 2 ^ j) < 4 * n)
  nearest_below p j l h = ⊎_elim (λ g. inl (low_step g)) (λ g. inr (less g)) (below_step n c k p j r l h)
    where
      low_step : p * 2 ^ j + 2 ^ k ≤ rounded → (rounded + p * 2 ^ j) * (rounded + p * 2 ^ j) ≤ sq (2 ^ k) (2 * c - 1)
      low_step g = let f : rounded + p * 2 ^ j ≤ (2 * c - 1) * 2 ^ k = halves c (2 ^ k) (p * 2 ^ j) g in mul-le-mul f f
        where
          halves : (c P z : ℕ) → z + P ≤ c * P → c * P + z ≤ (2 * c - 1) * P
          halves zero P z g = omega arith
          halves (suc c) P z g =
              let a : suc c * P ≡ (c + 1) * P = ap (λ (x : ℕ). x * P) (omega arith) in
              let b : (2 * suc c - 1) * P ≡ (2 * c + 1) * P = ap (λ (x : ℕ). x * P) (omega arith) in
              omega arith

      less : rounded * rounded ≤ n → (rounded + p * 2 ^ j) * (rounded + p * 2 ^ j) < 4 * n
      less g =
          let z = p * 2 ^ j in
          let a : z * rounded ≤ rounded * rounded = mul-le-mul_right rounded (le_of_lt h) in
          let b : z * z ≤ z * rounded = mul-le-mul_left z (le_of_lt h) in
          let d : z * rounded < rounded * rounded = mul-lt-mul_of_pos_right h (omega arith) in
          omega arith

  -- a number of 53 digits that is at most √n is at most the root, and one that is at least √n is at least the root
  pub root_ge : (p j : ℕ) → p < 2 ^ 53 → p * 2 ^ j * (p * 2 ^ j) ≤ n → p * 2 ^ j ≤ rounded
  root_ge p j l h = either (dec_le (p * 2 ^ j) rounded)
    where
      no_more : rounded < p * 2 ^ j → ⊥
      no_more g =
          let z = p * 2 ^ j in
          let a = le_trans r.high (nearest_above p j l g) in
          let b : z * rounded < z * z = mul-lt-mul_of_pos_left g (omega arith) in
          let d : rounded * rounded ≤ z * rounded = mul-le-mul_right rounded (le_of_lt g) in
          omega arith

      either : Dec (p * 2 ^ j ≤ rounded) → p * 2 ^ j ≤ rounded
      either (yes g) = g
      either (no g) = absurd (no_more (lt_of_not-le g))

  pub root_le : (p j : ℕ) → p < 2 ^ 53 → n ≤ p * 2 ^ j * (p * 2 ^ j) → rounded ≤ p * 2 ^ j
  root_le p j l h = either (dec_le rounded (p * 2 ^ j))
    where
      no_less : p * 2 ^ j < rounded → ⊥
      no_less g =
          let z = p * 2 ^ j in
          let d : z * rounded < rounded * rounded = mul-lt-mul_of_pos_right g (omega arith) in
          let b : z * z ≤ z * rounded = mul-le-mul_left z (le_of_lt g) in
          ⊎_elim (λ a. let u = le_trans a r.low in omega arith) (λ a. omega arith) (nearest_below p j l g)

      either : Dec (rounded ≤ p * 2 ^ j) → rounded ≤ p * 2 ^ j
      either (yes g) = g
      either (no g) = absurd (no_less (lt_of_not-le g))
