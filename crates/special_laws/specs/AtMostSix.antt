-- States: `ln-rounds`, `atan-rounds`, `atan2-rounds`: inside ln, atan and atan2 Carlson's loop takes at most six rounds, for every double; `ln_depends`,
-- `atan_depends`, `atan2_depends`: the three use R_C at such arguments alone; `ln-not-refused`, `atan-not-refused`, `atan2-not-refused`: so they have no refusal 15
-- to pass on; `rc-rounds`: any R_C takes at most 64. Assumes nothing.
use Rattle.std.specs.Prelude.{◌≡◌, ℕ, zero, suc, ◌+◌, ◌≤◌, ◌<◌, Bool, true, false, not, ◌||◌, cond, T, eqb}
use Rattle.std.proofs.Math.Path.{refl}
use Rattle.std.proofs.Common.{ap, zero-le, zero-lt-suc}
use Rattle.std.specs.Float.Ieee.{Float, nan, of_int, neg, lt, le, eq, is_nan}
use Rattle.std.specs.Float.{inf, fin, binary64}
use Rattle.doubles.specs.Rounded.{◌⊕◌, ◌⊖◌, ◌⊗◌, ◌⊘◌}
use Rattle.doubles.specs.Constants.{0·0, 1·0, LN2, π/2}
use Rattle.doubles.specs.Magnitude.{abs}
use Rattle.carlson.specs.declared.RoundC.{RoundC}
use Rattle.carlson.specs.CarlsonLoop.{max_rounds}
use Rattle.carlson.specs.RoundLaws.{at_most}
use Rattle.carlson.specs.Rc.{duplicate_c, test_c, A₀C, QC, duplications_c, rc_or, rc_value}
use Rattle.carlson.specs.Logarithm.{exponent, fraction, midpoint, ln_at, ln_by, ln}
use Rattle.carlson.specs.Arctangent.{with_sign, atan_within, atan_by, atan2_by, atan, atan2}
use Rattle.special_laws.specs.RoundsTaken.{rc_rounds, ln_rounds, atan_rounds, atan2_rounds, WithinSix}
use Rattle.special_laws.specs.ArgumentsOfRc.{in_ln, in_atan, in_atan_beyond}

-- ---- the rounds

above-none : (m : ℕ) → T (not (eqb m 0)) → 0 < m
above-none zero t = absurd t
above-none (suc m) t = zero-lt-suc m

pub ln-rounds : (x : Float) → ln_rounds x ≤ 6
unfolding ln_rounds
ln-rounds nan = zero-le
ln-rounds (inf s) = zero-le
ln-rounds (fin s m e) = go (eqb m 0) s (above-none m)
  where
    go : (b s : Bool) → (T (not b) → 0 < m) → cond (b || s) 0 (rc_rounds (midpoint (fraction m) ⊗ midpoint (fraction m)) (fraction m)) ≤ 6
    go true s M = zero-le
    go false true M = zero-le
    go false false M = (in_ln m (M tt)).at-most_six

pub atan-rounds : (z : Float) → atan_rounds z ≤ 6
unfolding atan_rounds
atan-rounds z = go (is_nan z) (le (abs z) 1·0) (λ t. t) (λ t. t) (λ t. t)
  where
    w : Float
    w = 1·0 ⊘ z

    go : (n b : Bool) → (T (not n) → T (not (is_nan z))) → (T b → T (le (abs z) 1·0)) → (T (not b) → T (not (le (abs z) 1·0)))
        → cond n 0 (cond b (rc_rounds 1·0 (1·0 ⊕ z ⊗ z)) (rc_rounds 1·0 (1·0 ⊕ w ⊗ w))) ≤ 6
    go true b N H K = zero-le
    go false true N H K = (in_atan z (H tt)).at-most_six
    go false false N H K = (in_atan_beyond z (N tt) (K tt)).at-most_six

pub atan2-rounds : (s c : Float) → atan2_rounds s c ≤ 6
unfolding atan2_rounds
atan2-rounds s c = go (is_nan s || is_nan c || eq s 0·0 || eq c 0·0)
  where
    go : (b : Bool) → cond b 0 (atan_rounds (s ⊘ c)) ≤ 6
    go true = zero-le
    go false = atan-rounds (s ⊘ c)

-- ---- R_C is used only where it takes at most six rounds: any two functions that agree at all such arguments give the same ln, atan and atan2
module _ (R R' : Float → Float → Float) (agree : (x y : Float) → WithinSix x y → R x y ≡ R' x y) where
  pub ln_depends : (x : Float) → ln_by R x ≡ ln_by R' x
  unfolding ln_by ln_at
  ln_depends nan = refl
  ln_depends (inf s) = refl
  ln_depends (fin s m e) = go (eqb m 0) s (above-none m)
    where
      t : Float
      t = fraction m

      at : Float → Float
      at r = of_int binary64 (exponent m e) ⊗ LN2 ⊕ (t ⊖ 1·0) ⊗ r

      go : (b s : Bool) → (T (not b) → 0 < m)
          → cond b (inf true) (cond s nan (at (R (midpoint t ⊗ midpoint t) t))) ≡ cond b (inf true) (cond s nan (at (R' (midpoint t ⊗ midpoint t) t)))
      go true s M = refl
      go false true M = refl
      go false false M = ap at (agree (midpoint t ⊗ midpoint t) t (in_ln m (M tt)))

  pub atan_depends : (z : Float) → atan_by R z ≡ atan_by R' z
  unfolding atan_by atan_within
  atan_depends z = go (is_nan z) (le (abs z) 1·0) (λ t. t) (λ t. t) (λ t. t)
    where
      w : Float
      w = 1·0 ⊘ z

      go : (n b : Bool) → (T (not n) → T (not (is_nan z))) → (T b → T (le (abs z) 1·0)) → (T (not b) → T (not (le (abs z) 1·0)))
          → cond n nan (cond b (z ⊗ R 1·0 (1·0 ⊕ z ⊗ z)) (with_sign z π/2 ⊖ w ⊗ R 1·0 (1·0 ⊕ w ⊗ w)))
          ≡ cond n nan (cond b (z ⊗ R' 1·0 (1·0 ⊕ z ⊗ z)) (with_sign z π/2 ⊖ w ⊗ R' 1·0 (1·0 ⊕ w ⊗ w)))
      go true b N H K = refl
      go false true N H K = ap (λ (r : Float). z ⊗ r) (agree 1·0 (1·0 ⊕ z ⊗ z) (in_atan z (H tt)))
      go false false N H K = ap (λ (r : Float). with_sign z π/2 ⊖ w ⊗ r) (agree 1·0 (1·0 ⊕ w ⊗ w) (in_atan_beyond z (N tt) (K tt)))

  pub atan2_depends : (s c : Float) → atan2_by R s c ≡ atan2_by R' s c
  unfolding atan2_by
  atan2_depends s c = rw (atan_depends (s ⊘ c))

-- ---- so no refusal can be seen: whatever number d stands for a refused R_C, ln, atan and atan2 are the same
module _ (d : Float) where
  agree : (x y : Float) → WithinSix x y → rc_or d x y ≡ rc_value x y
  unfolding rc_or
  agree x y w = rw w.answered

  pub ln-not-refused : (x : Float) → ln_by (rc_or d) x ≡ ln x
  unfolding ln
  ln-not-refused x = ln_depends (rc_or d) rc_value agree x

  pub atan-not-refused : (z : Float) → atan_by (rc_or d) z ≡ atan z
  unfolding atan
  atan-not-refused z = atan_depends (rc_or d) rc_value agree z

  pub atan2-not-refused : (s c : Float) → atan2_by (rc_or d) s c ≡ atan2 s c
  unfolding atan2
  atan2-not-refused s c = atan2_depends (rc_or d) rc_value agree s c

-- ---- R_C itself takes at most 64 rounds, whatever x and y
counts_one : (s : RoundC) → (duplicate_c s).n ≡ s.n + 1
unfolding duplicate_c
counts_one s = refl

loop-rounds : (x y : Float) → (duplications_c x y).n ≤ max_rounds
unfolding duplications_c
loop-rounds x y = at_most (test_c (QC x y)) duplicate_c (λ (s : RoundC). s.n) counts_one max_rounds (record { x = x; y = y; a = A₀C x y; f = 1·0; n = 0 })

pub rc-rounds : (x y : Float) → rc_rounds x y ≤ max_rounds
unfolding rc_rounds
rc-rounds x y = go (eq y 0·0) (lt y 0·0)
  where
    go : (a b : Bool) → cond a 0 (cond b (duplications_c (x ⊖ y) (neg y)).n (duplications_c x y).n) ≤ max_rounds
    go true b = zero-le
    go false true = loop-rounds (x ⊖ y) (neg y)
    go false false = loop-rounds x y
