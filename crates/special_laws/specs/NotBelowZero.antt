-- Lemmas on finite numbers not below zero, -0 among them, for `ThreeInOrder` and `InnerRj`: their order, as the fractions `num` / `den`, the smaller and the
-- larger of two, and what R_J's domain says of three. Assumes nothing.
use Rattle.std.specs.Prelude.{◌≡◌, refl, ◌⊎◌, Bool, not, ◌&&◌, ◌||◌, ℕ, zero, suc, ◌+◌, ◌*◌, ◌≤◌, ◌<◌, T, eqb, Float}
use Rattle.std.proofs.Common.{sym, ◌∙◌, inl, inr, true≢false, zero-le, le_trans, le_of_eq, mul-pos, zero-lt-suc, arith, ltb→lt, nltb→le, lt→ltb, eqb→eq}
use Rattle.std.proofs.Math.Bool.{true, false, cond}
use Rattle.std.proofs.Math.Nat.{le_of_lt, le_refl}
use Rattle.std.specs.Float.{nan, inf, fin}
use Rattle.std.specs.Float.Ieee.{up, down, lt, le, eq, of_bits, is_nan}
use Rattle.std.specs.Float.Ieee.Fits.{and_l, up_pos}
use Rattle.std.specs.Float.Ieee.Positive.{num, den, den_pos, positive, first_pos, through}
use Rattle.std.proofs.lemmas.Bool.{not-true}
use Rattle.doubles.specs.Constants.{0·0}
use Rattle.doubles.specs.Magnitude.{max, min}
use Rattle.doubles.proofs.Signs.{zero_equals, true→T, false→T}
use Rattle.special.specs.Domain.{finite_not_below_zero, more_than_one_zero, in_domain}

-- finite and not below zero: -0 is in
abbrev pub not_below_zero : Float → Bool
not_below_zero nan = false
not_below_zero (inf s) = false
not_below_zero (fin false m e) = true
not_below_zero (fin true zero e) = true
not_below_zero (fin true (suc m) e) = false

pub zero_product : (u v : ℕ) → 0 * u * v ≡ 0
zero_product u v = omega arith

-- ---- the order by fractions
infix 40 ◌≼◌
abbrev pub ◌≼◌ : Float → Float → Type 0
x ≼ y = num x * den y ≤ num y * den x

pub ≼_trans : (x y z : Float) → x ≼ y → y ≼ z → x ≼ z
≼_trans x y z h k = through (num x) (num y) (num z) (den x) (den y) (den z) (den_pos y) h k

pub lt-less : (x y : Float) → T (not_below_zero x) → T (not_below_zero y) → T (lt x y) → num x * den y < num y * den x
unfolding lt
lt-less nan y p q h = absurd p
lt-less (inf s) y p q h = absurd p
lt-less (fin s m e) nan p q h = absurd q
lt-less (fin s m e) (inf t) p q h = absurd q
lt-less (fin false m e) (fin false n d) p q h = ltb→lt (m * up e * down d) (n * up d * down e) h
lt-less (fin false m e) (fin true n d) p q h = absurd h
lt-less (fin true (suc m) e) (fin t n d) p q h = absurd p
lt-less (fin true zero e) (fin false n d) p q h = less (ltb→lt 0 (0 * up e * down d + n * up d * down e) h)
  where
    less : 0 < 0 * up e * down d + n * up d * down e → 0 * up e * down d < n * up d * down e
    less l = let z = zero_product (up e) (down d) in omega arith
lt-less (fin true zero e) (fin true (suc n) d) p q h = absurd q
lt-less (fin true zero e) (fin true zero d) p q h = absurd (no (ltb→lt (0 * up d * down e) (0 * up e * down d) h))
  where
    no : 0 * up d * down e < 0 * up e * down d → ⊥
    no l = let a = zero_product (up d) (down e) in let b = zero_product (up e) (down d) in omega arith

pub not-lt-le : (x y : Float) → T (not_below_zero x) → T (not_below_zero y) → T (not (lt x y)) → y ≼ x
unfolding lt
not-lt-le nan y p q h = absurd p
not-lt-le (inf s) y p q h = absurd p
not-lt-le (fin s m e) nan p q h = absurd q
not-lt-le (fin s m e) (inf t) p q h = absurd q
not-lt-le (fin false m e) (fin false n d) p q h = nltb→le (m * up e * down d) (n * up d * down e) h
not-lt-le (fin false m e) (fin true (suc n) d) p q h = absurd q
not-lt-le (fin false m e) (fin true zero d) p q h = le_trans (le_of_eq (zero_product (up d) (down e))) zero-le
not-lt-le (fin true (suc m) e) (fin t n d) p q h = absurd p
not-lt-le (fin true zero e) (fin false n d) p q h =
    let l = nltb→le 0 (0 * up e * down d + n * up d * down e) h in
    le_trans (le-sum l) zero-le
  where
    le-sum : 0 * up e * down d + n * up d * down e ≤ 0 → n * up d * down e ≤ 0
    le-sum l = let z = zero_product (up e) (down d) in omega arith
not-lt-le (fin true zero e) (fin true (suc n) d) p q h = absurd q
not-lt-le (fin true zero e) (fin true zero d) p q h = le_trans (le_of_eq (zero_product (up d) (down e))) zero-le

-- ---- the smaller and the larger of two
pub not-nan : (x : Float) → T (not_below_zero x) → is_nan x ≡ false
unfolding is_nan
not-nan nan p = absurd p
not-nan (inf s) p = absurd p
not-nan (fin s m e) p = refl

module _ (u v : Float) (P : Float → Type 0) (p : P u) (q : P v) where
  pub either_has : (b : Bool) → P (cond b v u)
  either_has true = q
  either_has false = p

  pub min-has : P (min u v)
  unfolding min
  min-has = either_has (is_nan u || lt v u)

  pub max-has : P (max u v)
  unfolding max
  max-has = either_has (is_nan u || lt u v)

module _ (u v : Float) (p : T (not_below_zero u)) (q : T (not_below_zero v)) where
  pub min-left : min u v ≼ u
  unfolding min
  min-left = rw (not-nan u p) (go (lt v u) refl)
    where
      go : (b : Bool) → lt v u ≡ b → cond b v u ≼ u
      go true e = le_of_lt (lt-less v u q p (true→T e))
      go false e = le_refl (num u * den u)

  pub max-left : u ≼ max u v
  unfolding max
  max-left = rw (not-nan u p) (go (lt u v) refl)
    where
      go : (b : Bool) → lt u v ≡ b → u ≼ cond b v u
      go true e = le_of_lt (lt-less u v p q (true→T e))
      go false e = le_refl (num u * den u)

  pub max-right : v ≼ max u v
  unfolding max
  max-right = rw (not-nan u p) (go (lt u v) refl)
    where
      go : (b : Bool) → lt u v ≡ b → v ≼ cond b v u
      go true e = le_refl (num v * den v)
      go false e = not-lt-le u v p q (false→T e)

  pub min_under_max : min u v ≼ max u v
  min_under_max = ≼_trans (min u v) u (max u v) min-left max-left

-- ---- not zero is above zero
pub num-above : (x : Float) → T (not_below_zero x) → eq x 0·0 ≡ false → 0 < num x
num-above nan p h = absurd p
num-above (inf s) p h = absurd p
num-above (fin s zero e) p h = absurd (true≢false (sym (zero_equals s e) ∙ h))
num-above (fin s (suc m) e) p h = mul-pos (zero-lt-suc m) (up_pos e)

pub is_positive : (x : Float) → T (not_below_zero x) → 0 < num x → T (positive x)
is_positive nan p h = absurd p
is_positive (inf s) p h = absurd p
is_positive (fin true (suc m) e) p h = absurd p
is_positive (fin true zero e) p h = absurd (no h)
  where
    no : 0 < 0 * up e → ⊥
    no l = omega arith
is_positive (fin false m e) p h = lt→ltb 0 m (first_pos m (up e) h)

pub under_positive : (x y : Float) → x ≼ y → 0 < num x → 0 < num y
under_positive x y h p = first_pos (num y) (den x) (le_trans (mul-pos p (den_pos y)) h)

-- ---- the domain
pub not_below_zero_of : (x : Float) → T (finite_not_below_zero x) → T (not_below_zero x)
unfolding finite_not_below_zero le lt eq of_bits
not_below_zero_of nan h = absurd h
not_below_zero_of (inf s) h = absurd h
not_below_zero_of (fin false m e) h = tt
not_below_zero_of (fin true zero e) h = tt
not_below_zero_of (fin true (suc m) e) h = absurd (no (eqb→eq (0 * 1 * down e) (suc m * up e * 1) (and_l (eqb (0 * 1 * down e) (suc m * up e * 1)) (eqb (0 * 1 * down e) 0) h)))
  where
    no : 0 * 1 * down e ≡ suc m * up e * 1 → ⊥
    no f = let l : 0 < suc m * up e = mul-pos (zero-lt-suc m) (up_pos e) in let z = zero_product 1 (down e) in omega arith

abbrev pub OneAbove : Float → Float → Type 0
OneAbove u v = (0 < num u) ⊎ (0 < num v)

pub one-above : (u v : Float) → T (not_below_zero u) → T (not_below_zero v) → eq u 0·0 && eq v 0·0 ≡ false → OneAbove u v
one-above u v p q h = go (eq u 0·0) refl h
  where
    go : (b : Bool) → eq u 0·0 ≡ b → b && eq v 0·0 ≡ false → OneAbove u v
    go true e h = inr (num-above v q h)
    go false e h = inl (num-above u p e)

pub pairs : (p q r : Bool) → cond p (q || r) (q && r) ≡ false → (p && q ≡ false) × (p && r ≡ false) × (q && r ≡ false)
pairs true true r h = absurd (true≢false h)
pairs true false r h = (refl, h, refl)
pairs false true r h = (refl, refl, h)
pairs false false r h = (refl, refl, refl)

and-two : (a b : Bool) → a && b ≡ true → (a ≡ true) × (b ≡ true)
and-two true b h = (refl, h)
and-two false b h = absurd (true≢false (sym h))

-- three numbers not below zero, of which at most one is zero
pub record AtMostOneZero (x y z : Float) : Type 0 where
  pub first : T (not_below_zero x)
  pub second : T (not_below_zero y)
  pub third : T (not_below_zero z)
  pub xy : OneAbove x y
  pub xz : OneAbove x z
  pub yz : OneAbove y z

pub of_domain : (x y z : Float) → in_domain x y z ≡ true → AtMostOneZero x y z
unfolding in_domain more_than_one_zero
of_domain x y z d =
    let s₃ = and-two (finite_not_below_zero x && finite_not_below_zero y && finite_not_below_zero z) (not (more_than_one_zero x y z)) d in
    let s₂ = and-two (finite_not_below_zero x && finite_not_below_zero y) (finite_not_below_zero z) s₃.0 in
    let s₁ = and-two (finite_not_below_zero x) (finite_not_below_zero y) s₂.0 in
    let ux = not_below_zero_of x (true→T s₁.0) in
    let uy = not_below_zero_of y (true→T s₁.1) in
    let uz = not_below_zero_of z (true→T s₂.1) in
    let w = pairs (eq x 0·0) (eq y 0·0) (eq z 0·0) (not-true (more_than_one_zero x y z) s₃.1) in
    record {
      first = ux;
      second = uy;
      third = uz;
      xy = one-above x y ux uy w.0;
      xz = one-above x z ux uz w.1;
      yz = one-above y z uy uz w.2;
    }
