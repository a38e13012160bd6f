-- atan and atan2, as document 01's stand-ins say. Definitions only.
use Rattle.std.specs.Prelude.{◌||◌, cond, Float}
use Rattle.std.specs.Float.{nan}
use Rattle.std.specs.Float.Ieee.{neg, lt, le, eq, is_nan}
use Rattle.doubles.specs.Rounded.{◌⊕◌, ◌⊖◌, ◌⊗◌, ◌⊘◌}
use Rattle.doubles.specs.Constants.{0·0, 1·0, π, π/2}
use Rattle.doubles.specs.Magnitude.{abs, negative}
use Rattle.carlson.specs.Rc.{rc_value}

-- w, which is above zero, with z's sign
abbrev pub with_sign : Float → Float → Float
with_sign z w = cond (negative z) (neg w) w

-- over any R_C, so that special_laws (`AtMostSix`) can say at which arguments it is used
module _ (R_C : Float → Float → Float) where
  -- for |z| ≤ 1
  unfoldable pub atan_within : Float → Float
  atan_within z = z ⊗ R_C 1·0 (1·0 ⊕ z ⊗ z)

  -- NaN gives NaN; beyond 1, with w = 1/z, ±π/2 with z's sign, minus w R_C(1, 1 + w²)
  unfoldable pub atan_by : Float → Float
  atan_by z = cond (is_nan z) nan (cond (le (abs z) 1·0) (atan_within z) (with_sign z π/2 ⊖ atan_within (1·0 ⊘ z)))

  -- NaN if either is. If s is zero: s itself for c > 0 or c = +0, else π with s's sign. If c is zero: π/2 with s's sign. Otherwise atan(s/c), and for c < 0 plus π
  -- with s's sign
  unfoldable pub atan2_by : Float → Float → Float
  atan2_by s c =
      cond (is_nan s || is_nan c) nan
      (cond (eq s 0·0) (cond (negative c) (with_sign s π) s)
      (cond (eq c 0·0) (with_sign s π/2)
      (cond (lt c 0·0) (atan_by (s ⊘ c) ⊕ with_sign s π) (atan_by (s ⊘ c)))))

unfoldable pub atan : Float → Float
atan z = atan_by rc_value z

unfoldable pub atan2 : Float → Float → Float
atan2 s c = atan2_by rc_value s c
