-- ln outside the finite numbers above zero, by the tests of the code, over any R_C. Assumes nothing.
use mathlib.Core.Path.{◌≡◌, refl, sym, ap, ◌∙◌, subst}
use Prim.Native.Nat.{ℕ, zero, suc, ◌*◌, ◌<◌}
use native.Mathlib.Nat.{zero-mul, mul-pos, zero-lt-suc, lt_irrefl, lt_of_lt_of_le}
use mathlib.Core.Bool.{Bool, true, false, cond, true≢false, false≢true}
use lib.IntN.{ℤ}
use lib.Dec.{T, ltb→lt, nltb→le, lt→ltb}
use lib.Ieee.{Float, nan, inf, fin, binary64, up, down, of_bits, lt, eq}
use lib.Ieee.Fits.{up_pos}
use lib.Ieee.Positive.{positive, first_pos}
use Rattle.doubles.specs.Constants.{0·0, +∞}
use Rattle.doubles.proofs.Signs.{is-zero, zero_equals, true→T, false→T}
use Rattle.carlson.specs.Logarithm.{ln_by}
use Rattle.carlson.proofs.LnBits.{pos_test}

-- the product that a comparison with zero makes
cross_pos : (a m u : ℕ) → a ≡ 0 → a < m * u * 1 → 0 < m
cross_pos a m u e h = first_pos m u (first_pos (m * u) 1 (subst (λ (n : ℕ). n < m * u * 1) e h))

pub ln-positive : (x : Float) → lt x +∞ ≡ true → lt 0·0 x ≡ true → T (positive x)
unfolding lt of_bits
ln-positive nan h k = absurd (false≢true h)
ln-positive (inf true) h k = absurd (false≢true k)
ln-positive (inf false) h k = absurd (false≢true h)
ln-positive (fin true m e) h k = absurd (false≢true k)
ln-positive (fin false m e) h k = lt→ltb 0 m (cross_pos (0 * down e) m (up e) (zero-mul (down e)) (ltb→lt (0 * down e) (m * up e * 1) (true→T k)))

not-zero : (s : Bool) (m : ℕ) (e : ℤ) → eq (fin s m e) 0·0 ≡ false → 0 < m
not-zero s zero e h = absurd (true≢false (sym (zero_equals s e) ∙ h))
not-zero s (suc m) e h = zero-lt-suc m

module _ (R_C : Float → Float → Float) where
  at_zero : (s : Bool) (e : ℤ) → of_bits binary64 0xfff0_0000_0000_0000 ≡ ln_by R_C (fin s 0 e)
  unfolding of_bits ln_by
  at_zero s e = refl

  pub ln-zero : (x : Float) → eq x 0·0 ≡ true → of_bits binary64 0xfff0_0000_0000_0000 ≡ ln_by R_C x
  ln-zero x h = let z = is-zero x h in at_zero z.0 z.1 ∙ ap (ln_by R_C) (sym z.2)

  pub ln-below : (x : Float) → eq x 0·0 ≡ false → lt x +∞ ≡ true → lt 0·0 x ≡ false → of_bits binary64 0x7ff8_0000_0000_0000 ≡ ln_by R_C x
  unfolding lt of_bits ln_by
  ln-below nan z h k = absurd (false≢true h)
  ln-below (inf true) z h k = refl
  ln-below (inf false) z h k = absurd (false≢true h)
  ln-below (fin true m e) z h k = ap (λ (b : Bool). cond b (inf true) nan) (sym (pos_test m (not-zero true m e z)))
  ln-below (fin false m e) z h k =
      absurd (lt_irrefl 0 (subst (λ (n : ℕ). 0 < n) (zero-mul (down e))
      (lt_of_lt_of_le (mul-pos (mul-pos (not-zero false m e z) (up_pos e)) (zero-lt-suc 0)) (nltb→le (0 * down e) (m * up e * 1) (false→T k)))))

  pub ln-other : (x : Float) → lt x +∞ ≡ false → x ≡ ln_by R_C x
  unfolding lt of_bits ln_by
  ln-other nan h = refl
  ln-other (inf true) h = absurd (true≢false h)
  ln-other (inf false) h = refl
  ln-other (fin s m e) h = absurd (true≢false h)
