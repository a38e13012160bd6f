-- States: `atan2-lane`: atan2 by lanes is `atan2`, for numbers that are not zero and whose quotient is a number; `atan2_parts`: its last step; `reduced-within`, `reduced-is`: the
-- steps of a reduction; `atan-is`: atan by lanes of a number. Assumes nothing.
use mathlib.Core.Path.{◌≡◌, refl, sym, ap, ap₂, ◌∙◌, subst}
use Prim.Native.Nat.{ℕ, zero, suc, ◌+◌, ◌*◌, ◌<◌, zero-le}
use native.Mathlib.Nat.{zero-mul, mul-pos, zero-lt-suc, le_trans, le_of_eq}
use native.Mathlib.Omega.{arith}
use mathlib.Core.Bool.{Bool, true, false, not, cond, true≢false}
use lib.Dec.{T, lt→ltb}
use lib.Ieee.{Float, nan, inf, fin, up, down, of_bits, neg, div, lt, le, eq, ne, is_nan}
use lib.Ieee.Fits.{up_pos}
use borrow.Author.Tests.{lt-ltb, not-true}
use Rattle.doubles.specs.Rounded.{◌⊕◌, ◌⊖◌, ◌⊗◌, ◌⊘◌}
use Rattle.doubles.specs.Constants.{0·0, 1·0, π, π/2}
use Rattle.doubles.specs.Magnitude.{abs, negative}
use Rattle.doubles.proofs.Signs.{true→T, false→T, above_zero, is-zero, zero_equals, ne_self}
use Rattle.doubles.proofs.FiniteUnsigned.{cross→le}
use Rattle.doubles.proofs.Between.{positive_between}
use Rattle.carlson.specs.Rc.{rc_value}
use Rattle.carlson.specs.Arctangent.{with_sign, atan_within, atan_by, atan2_by, atan2}
use Rattle.special_laws.specs.ArgumentsOfRc.{y_within, reciprocal, in_atan}
use Rattle.lanes_rc.specs.LaneRounds.{rc_number}
use Rattle.lanes_atan2.specs.AtanLanes.{Proper, reduced, signed, angle, atan_from, atan2_from, atan2_lane}
use Rattle.lanes_rc.proofs.NumberIsValue.{number-value}

-- ---- the sign of what is not zero

not-zero : (s : Bool) (m : ℕ) → (e : _) → eq (fin s m e) 0·0 ≡ false → 0 < m
not-zero s zero e h = absurd (true≢false (sym (zero_equals s e) ∙ h))
not-zero s (suc m) e h = zero-lt-suc m

sum_pos : (a b : ℕ) → 0 < a → 0 < a + b
sum_pos a b h = omega arith

below-zero : (m : ℕ) → (e : _) → 0 < m → lt (fin true m e) 0·0 ≡ true
unfolding lt of_bits
below-zero m e h = lt-ltb 0 (m * up e * 1 + 0 * down e) (sum_pos (m * up e * 1) (0 * down e) (mul-pos (mul-pos h (up_pos e)) (zero-lt-suc 0)))

infinite : (s : Bool) → lt (inf s) 0·0 ≡ s
unfolding lt of_bits
infinite s = refl

sign-is : (z : Float) → is_nan z ≡ false → eq z 0·0 ≡ false → lt z 0·0 ≡ negative z
unfolding negative is_nan
sign-is nan n h = absurd (true≢false n)
sign-is (inf s) n h = infinite s
sign-is (fin true m e) n h = below-zero m e (not-zero true m e h)
sign-is (fin false m e) n h = (above_zero (fin false m e) (lt→ltb 0 m (not-zero false m e h))).1

pub signed_is : (z w : Float) → is_nan z ≡ false → eq z 0·0 ≡ false → signed z w ≡ with_sign z w
signed_is z w n h = ap (λ (b : Bool). cond b (neg w) w) (sign-is z n h)

-- a zero is up to 1
small : (s : Bool) (e : _) → T (le (abs (fin s 0 e)) 1·0)
unfolding abs of_bits
small s e = cross→le (fin false 0 e) 1·0 tt tt (le_trans (le_of_eq (ap (λ (n : ℕ). n * 1) (zero-mul (up e)))) zero-le)

beyond_not-zero : (z : Float) → le (abs z) 1·0 ≡ false → eq z 0·0 ≡ false
beyond_not-zero z h = go (eq z 0·0) refl
  where
    go : (b : Bool) → eq z 0·0 ≡ b → b ≡ false
    go true e = let q = is-zero z e in absurd (subst T h (subst (λ (x : Float). T (le (abs x) 1·0)) (sym q.2) (small q.0 q.1)))
    go false e = refl

-- ---- atan

angle-is : (w : Float) → T (le (abs w) 1·0) → angle w ≡ atan_within rc_value w
unfolding atan_within
angle-is w h = ap (λ (r : Float). w ⊗ r) (number-value 1·0 (1·0 ⊕ w ⊗ w) (positive_between (y_within w h) tt) (in_atan w h))

pub atan-is : (z : Float) → is_nan z ≡ false → atan_from z (angle (reduced z)) ≡ atan_by rc_value z
unfolding atan_from atan_by reduced
atan-is z n = rw n (go (le (abs z) 1·0) refl)
  where
    go : (b : Bool) → le (abs z) 1·0 ≡ b
        → cond b (angle (cond b z (1·0 ⊘ z))) (signed z π/2 ⊖ angle (cond b z (1·0 ⊘ z))) ≡ cond b (atan_within rc_value z) (with_sign z π/2 ⊖ atan_within rc_value (1·0 ⊘ z))
    go true h = angle-is z (true→T h)
    go false h = ap₂ (λ (u v : Float). u ⊖ v) (signed_is z π/2 n (beyond_not-zero z h)) (angle-is (1·0 ⊘ z) (reciprocal z (false→T n) (false→T h)))

-- ---- atan2

numbers : (s c : Float) → is_nan (s ⊘ c) ≡ false → (is_nan s ≡ false) × (is_nan c ≡ false)
unfolding div is_nan
numbers nan c h = absurd (true≢false h)
numbers (inf s) nan h = absurd (true≢false h)
numbers (inf s) (inf t) h = (refl, refl)
numbers (inf s) (fin t n d) h = (refl, refl)
numbers (fin s m e) nan h = absurd (true≢false h)
numbers (fin s m e) (inf t) h = (refl, refl)
numbers (fin s m e) (fin t n d) h = (refl, refl)

differs : (x y : Float) → ne x y ≡ true → eq x y ≡ false
unfolding ne
differs x y h = not-true (eq x y) h

itself : (z : Float) → eq z z ≡ true → is_nan z ≡ false
unfolding ne
itself z h = sym (ne_self z) ∙ ap not h

pub atan2-lane : (s c : Float) → Proper s c → atan2_lane s c ≡ atan2 s c
unfolding atan2 atan2_by atan2_from
atan2-lane s c p =
    let n = itself (s ⊘ c) p.z_is in
    let w = numbers s c n in
    let e = differs s 0·0 p.s_is in
    rw (w.0, w.1, e, differs c 0·0 p.c_is, atan-is (s ⊘ c) n, signed_is s π w.0 e)

pub reduced-within : (z : Float) → le (abs z) 1·0 ≡ true → z ≡ reduced z
unfolding reduced
reduced-within z h = sym (ap (λ (b : Bool). cond b z (1·0 ⊘ z)) h)

pub reduced-is : (z : Float) (a : Float) → a ≡ abs z → cond (le a 1·0) z (1·0 ⊘ z) ≡ reduced z
unfolding reduced
reduced-is z a e = rw e

pub atan2_parts : {z w r o y v : Float} (s c : Float) → z ≡ s ⊘ c → w ≡ reduced z → o ≡ 1·0 → y ≡ 1·0 ⊕ w ⊗ w → r ≡ rc_number o y → v ≡ atan2_from s c (atan_from z (w ⊗ r)) → v ≡ atan2_lane s c
atan2_parts s c ez ew eo ey er ev = ev ∙ rw (er, eo, ey, ew, ez)
