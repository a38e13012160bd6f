-- The cases of atan2, by the tests of the code. Assumes nothing.
use mathlib.Core.Path.{◌≡◌, sym, ◌∙◌}
use mathlib.Core.Bool.{true, false}
use lib.Ieee.{Float, lt, eq, ne, is_nan}
use Rattle.doubles.specs.Rounded.{◌⊕◌, ◌⊘◌}
use Rattle.doubles.specs.Constants.{0·0, π, π/2}
use Rattle.doubles.specs.Magnitude.{negative}
use Rattle.doubles.proofs.Signs.{ne_self}
use Rattle.carlson.specs.Arctangent.{with_sign, atan2_by, atan, atan2}

module _ (s c : Float) (s-equals : ne s s ≡ false) (c-equals : ne c c ≡ false) where
  p : is_nan s ≡ false
  p = sym (ne_self s) ∙ s-equals

  q : is_nan c ≡ false
  q = sym (ne_self c) ∙ c-equals

  pub s_zero : eq s 0·0 ≡ true → negative c ≡ true → with_sign s π ≡ atan2 s c
  unfolding atan2_by atan2
  s_zero a n = simp (p, q, a, n)

  pub s_itself : eq s 0·0 ≡ true → negative c ≡ false → s ≡ atan2 s c
  unfolding atan2_by atan2
  s_itself a n = simp (p, q, a, n)

  pub c_zero : eq s 0·0 ≡ false → eq c 0·0 ≡ true → with_sign s π/2 ≡ atan2 s c
  unfolding atan2_by atan2
  c_zero a b = simp (p, q, a, b)

  pub left : eq s 0·0 ≡ false → eq c 0·0 ≡ false → lt c 0·0 ≡ true → atan (s ⊘ c) ⊕ with_sign s π ≡ atan2 s c
  unfolding atan atan2_by atan2
  left a b h = simp (p, q, a, b, h)

  pub right : eq s 0·0 ≡ false → eq c 0·0 ≡ false → lt c 0·0 ≡ false → atan (s ⊘ c) ≡ atan2 s c
  unfolding atan atan2_by atan2
  right a b h = simp (p, q, a, b, h)
