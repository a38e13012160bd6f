-- How many rounds R_C's loop takes, and those inside ln, atan and atan2: none where they call no R_C. `AtMostSix` shows that these are at most six. Definitions only.
use Rattle.std.specs.Prelude.{◌≡◌, false, ◌||◌, cond, ℕ, ◌≤◌, eqb, Float}
use Rattle.std.specs.Float.{nan, inf, fin}
use Rattle.std.specs.Float.Ieee.{neg, lt, le, eq, is_nan}
use Rattle.doubles.specs.Rounded.{◌⊕◌, ◌⊖◌, ◌⊗◌, ◌⊘◌}
use Rattle.doubles.specs.Constants.{0·0, 1·0}
use Rattle.doubles.specs.Magnitude.{abs}
use Rattle.std.specs.Prelude.{Ok}
use Rattle.carlson.specs.Rc.{QC, test_c, duplications_c, rc, rc_value}
use Rattle.carlson.specs.Logarithm.{fraction, midpoint}

unfoldable pub rc_rounds : Float → Float → ℕ
rc_rounds x y = cond (eq y 0·0) 0 (cond (lt y 0·0) (duplications_c (x ⊖ y) (neg y)).n (duplications_c x y).n)

unfoldable pub ln_rounds : Float → ℕ
ln_rounds nan = 0
ln_rounds (inf s) = 0
ln_rounds (fin s m e) = cond (eqb m 0 || s) 0 (rc_rounds (midpoint (fraction m) ⊗ midpoint (fraction m)) (fraction m))

unfoldable pub atan_rounds : Float → ℕ
atan_rounds z =
    let w = 1·0 ⊘ z in
    cond (is_nan z) 0 (cond (le (abs z) 1·0) (rc_rounds 1·0 (1·0 ⊕ z ⊗ z)) (rc_rounds 1·0 (1·0 ⊕ w ⊗ w)))

unfoldable pub atan2_rounds : Float → Float → ℕ
atan2_rounds s c = cond (is_nan s || is_nan c || eq s 0·0 || eq c 0·0) 0 (atan_rounds (s ⊘ c))

-- for y above zero: R_C(x, y) takes at most six rounds, after which the loop's test is false, and is not refused
pub record WithinSix (x y : Float) : Type 0 where
  pub at-most_six : rc_rounds x y ≤ 6
  pub ended : test_c (QC x y) (duplications_c x y) ≡ false
  pub answered : rc x y ≡ Ok (rc_value x y)
