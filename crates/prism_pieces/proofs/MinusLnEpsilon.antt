-- The constant of the code, −ln ε, which is 52 LN2 rounded. Assumes nothing.
use mathlib.Core.Path.{◌≡◌, refl}
use lib.Ieee.{binary64, neg, of_int, of_bits, add, sub, mul, div, lt, le, eq}
use Rattle.doubles.specs.Constants.{ε}
use Rattle.doubles.specs.Magnitude.{abs}
use Rattle.roots.specs.Root.{Root}
use Rattle.carlson.specs.Rounds.{rounds_from}
use Rattle.carlson.specs.CarlsonLoop.{quarter, loop_test}
use Rattle.carlson.specs.Rc.{duplicate_c, duplications_c, series_c, rc_above, rc, rc_or}
use Rattle.carlson.specs.Logarithm.{ln_at, ln_by, ln}

pub minus_ln_ε : neg (ln ε) ≡ of_bits binary64 0x4042_0596_6f2b_4f12
unfolding ln ln_by ln_at rc_or rc rc_above duplications_c rounds_from duplicate_c quarter loop_test series_c abs Root neg of_int of_bits add sub mul div lt le eq
minus_ln_ε = refl
