-- States: `ln-lane`: ln by lanes is `ln`, for a normal number above zero; `ln_parts`: its last step; `pattern_number`: what the pattern is taken of is no NaN. Assumes nothing.
use mathlib.Core.Path.{◌≡◌, sym, ap, ◌∙◌, subst}
use mathlib.Core.Bool.{Bool, true, false, not, cond, false≢true}
use Prim.Native.Nat.{ℕ, ◌*◌, ◌^◌, ◌≤◌, ◌<◌}
use native.Mathlib.Nat.{mul-le-mul_right, le_of_mul-le-mul_right, lt_of_lt_of_le, mul-pos, zero-lt-suc}
use native.Mathlib.Omega.{arith}
use lib.Dec.{T, ltb, eqb, ltb→lt, nltb→le, lt→ltb, eqb→eq}
use lib.IntN.{negsuc}
use lib.Pow.{pow-add}
use lib.Ieee.{Float, nan, inf, fin, binary64, up, down, odd, of_bits, to_bits, is_nan, lt, le, eq}
use lib.Ieee.Bits.{of_bits-to_bits}
use lib.Ieee.Exact.{HasValue, odd_sign}
use lib.Ieee.Fits.{and_r, down_pos}
use lib.Ieee.Positive.{positive, first_pos, den}
use Rattle.doubles.specs.Rounded.{◌⊕◌, ◌⊖◌, ◌⊗◌}
use Rattle.doubles.specs.Constants.{1·0, LN2}
use Rattle.doubles.proofs.Signs.{true→T}
use Rattle.doubles.proofs.Fields.{bits-lt, subnormal}
use Rattle.doubles.proofs.FiniteUnsigned.{le→cross}
use Rattle.carlson.specs.Logarithm.{fraction, midpoint, ln_at, ln_by, ln}
use Rattle.special_laws.specs.ArgumentsOfRc.{in_ln}
use Rattle.lanes_rc.specs.LaneRounds.{rc_number}
use Rattle.lanes_rc.proofs.NumberIsValue.{number-value}
use Rattle.lanes_ln.specs.LnLanes.{smallest, largest, Normal, pattern_of, scale_of, fraction_of, ln_lane}
use Rattle.lanes_ln.proofs.SplitPattern.{split-is}

pub pattern_number : (x : Float) → T (not (is_nan (cond (le x largest) x largest)))
unfolding lt le eq is_nan of_bits
pattern_number nan = tt
pattern_number (inf true) = tt
pattern_number (inf false) = tt
pattern_number (fin s m e) = go (le (fin s m e) largest)
  where
    go : (b : Bool) → T (not (is_nan (cond b (fin s m e) largest)))
    go true = tt
    go false = tt

-- ---- a normal number above zero

-- it is above zero
cross : (n : ℕ) → 1 * 1 * n ≡ 0 → 0 < n → ⊥
cross n e h = omega arith

above : (x : Float) → le smallest x ≡ true → le x largest ≡ true → T (positive x)
unfolding lt le eq of_bits
above nan h k = absurd (false≢true h)
above (inf true) h k = absurd (false≢true h)
above (inf false) h k = absurd (false≢true k)
above (fin true m e) h k =
    let a = 1 * 1 * down e in
    let b = m * up e * down (negsuc 1021) in
    absurd (cross (down e) (eqb→eq a 0 (and_r (eqb a b) (eqb a 0) (true→T h))) (down_pos e))
above (fin false m e) h k =
    let l = le→cross smallest (fin false m e) tt tt (true→T h) in
    lt→ltb 0 m (first_pos m (up e) (first_pos (m * up e) (den smallest) (lt_of_lt_of_le (mul-pos (zero-lt-suc 0) (down_pos e)) l)))

-- its pattern is that of no subnormal number
shared : (u d n p q r : ℕ) → 1 * d ≤ u * p → u * r ≡ n * 1 * d → r ≡ p * q → 0 < d → q ≤ n
shared u d n p q r h e f z =
    let g : 1 * d * q ≤ u * p * q = mul-le-mul_right q h in
    let k : u * r ≡ u * (p * q) = ap (λ (i : ℕ). u * i) f in
    le_of_mul-le-mul_right {k = d} (omega arith) z

units_above : (x : Float) → T (positive x) → le smallest x ≡ true → (n : ℕ) → HasValue x false (n * 2 ^ 0) (2 ^ 1074) → 2 ^ 52 ≤ n
unfolding of_bits
units_above nan p h n v = absurd p
units_above (inf s) p h n v = absurd p
units_above (fin true m e) p h n v = absurd p
units_above (fin false m e) p h n v =
    shared (m * up e) (down e) n (2 ^ 1022) (2 ^ 52) (2 ^ 1074) (le→cross smallest (fin false m e) tt tt (true→T h)) v.1 (pow-add 2 1022 52) (down_pos e)

module _ (x : Float) (o : Normal x) where
  is_positive : T (positive x)
  is_positive = above x o.low o.high

  pattern-above : 2 ^ 52 ≤ to_bits binary64 x
  pattern-above = go (ltb (to_bits binary64 x) (2 ^ 52)) (ltb→lt (to_bits binary64 x) (2 ^ 52)) (nltb→le (to_bits binary64 x) (2 ^ 52))
    where
      go : (t : Bool) → (T t → to_bits binary64 x < 2 ^ 52) → (T (not t) → 2 ^ 52 ≤ to_bits binary64 x) → 2 ^ 52 ≤ to_bits binary64 x
      go true p q =
          let n = to_bits binary64 x in
          let e : x ≡ odd 53 false n 0 1074 = sym (of_bits-to_bits binary64 x o.fit) ∙ subnormal n (p tt) in
          units_above x is_positive o.low n (subst (λ (y : Float). HasValue y false (n * 2 ^ 0) (2 ^ 1074)) (sym e) (odd_sign 53 false n 0 1074))
      go false p q = q tt

  pattern-below : to_bits binary64 x < 2047 * 2 ^ 52
  pattern-below = bits-lt (to_bits binary64 x) (subst (λ (y : Float). T (positive y)) (sym (of_bits-to_bits binary64 x o.fit)) is_positive)

-- ---- ln

-- R_C's number in ln is its value
by_number : (x : Float) → T (positive x) → ln_by rc_number x ≡ ln x
unfolding ln_by ln_at ln
by_number nan p = absurd p
by_number (inf s) p = absurd p
by_number (fin true m e) p = absurd p
by_number (fin false m e) p = rw (number-value (midpoint (fraction m) ⊗ midpoint (fraction m)) (fraction m) p (in_ln m (ltb→lt 0 m p)))

pub ln-lane : (x : Float) → Normal x → ln_lane x ≡ ln x
unfolding pattern_of
ln-lane x o =
    let b = to_bits binary64 x in
    ap (λ (t : Bool). ln_at rc_number (scale_of (to_bits binary64 (cond t x largest))) (fraction_of (to_bits binary64 (cond t x largest)))) o.high
    ∙ split-is b (pattern-above x o) (pattern-below x o) rc_number ∙ ap (ln_by rc_number) (of_bits-to_bits binary64 x o.fit) ∙ by_number x (is_positive x o)

pub ln_parts : {s t h c : Float} (k u : Float) → s ≡ k → t ≡ u → h ≡ midpoint u ⊗ midpoint u → c ≡ rc_number h t → s ⊗ LN2 ⊕ (t ⊖ 1·0) ⊗ c ≡ ln_at rc_number k u
unfolding ln_at
ln_parts k u e f g i = rw (i, e, g, f)
