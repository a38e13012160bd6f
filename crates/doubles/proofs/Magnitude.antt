-- The tests of the magnitude and of the sign. Assumes nothing.
use mathlib.Core.Path.{◌≡◌, refl}
use lib.Ieee.{Float, nan, inf, fin, lt, le, of_bits}
use lib.Ieee.Scale.{finite}
use Rattle.std.specs.Float.{float_is_finite, is_sign_negative}
use Rattle.doubles.specs.Constants.{10⁹}
use Rattle.doubles.specs.Magnitude.{abs, negative, within_limits}

-- std's words
pub finite_is : (x : Float) → float_is_finite x ≡ finite x
unfolding float_is_finite
finite_is nan = refl
finite_is (inf s) = refl
finite_is (fin s m e) = refl

pub negative_is : (x : Float) → is_sign_negative x ≡ negative x
unfolding is_sign_negative negative
negative_is nan = refl
negative_is (inf s) = refl
negative_is (fin s m e) = refl

-- what is at most 10⁹ is finite
pub limit_test : (x : Float) → le (abs x) 10⁹ ≡ within_limits x
unfolding le lt abs of_bits within_limits
limit_test nan = refl
limit_test (inf s) = refl
limit_test (fin s m e) = refl
