-- The worked figures of the Rust's documentation (Chen, Brug & Goldfarb 1991, Table I; Osborn 1945). States: `factors_of_a_sphere`: the demagnetising factors are
-- 1/3 each, within 10⁻¹⁵; `along_a_prolate_spheroid`: 0.1736 along the long axis of a 2:1 prolate spheroid; `across_a_disc`: 0.9845 across a 100:1 disc; these two
-- within half a unit of the last digit. Assumes nothing.
use Rattle.std.specs.Prelude.{◌≡◌, refl, Bool, true, false, ◌&&◌, Float}
use Rattle.std.specs.Float.{binary64}
use Rattle.std.specs.Float.Ieee.{of_bits, add, sub, mul, div, neg, lt, le, eq, is_nan}
use Rattle.doubles.specs.Rounded.{◌⊖◌, ◌⊘◌}
use Rattle.doubles.specs.Constants.{1·0, 2·0, 3·0, 10⁻¹⁵}
use Rattle.doubles.specs.Magnitude.{abs, max}
use Rattle.roots.specs.Root.{Root}
use Rattle.std.specs.Prelude.{Ok, Err}
use Rattle.refusals.specs.Answer.{Answer}
use Rattle.newtonian.specs.declared.Vector.{Vector}
use Rattle.carlson.specs.Rounds.{rounds_from}
use Rattle.carlson.specs.CarlsonLoop.{quarter, loop_test}
use Rattle.special_rf_rd.specs.Duplication.{max_distance, series}
use Rattle.special_rf_rd.specs.Rd.{rd, duplications_d, duplicate_d, series_d}
use Rattle.demagnetisation.specs.Ellipsoid.{factor, together, factors_of}

abbrev 100·0 : Float
100·0 = of_bits binary64 0x4059_0000_0000_0000

abbrev 0·1736 : Float
0·1736 = of_bits binary64 0x3fc6_3886_594a_f4f1

abbrev 0·9845 : Float
0·9845 = of_bits binary64 0x3fef_8106_24dd_2f1b

-- half a unit of the fourth digit
abbrev 0·00005 : Float
0·00005 = of_bits binary64 0x3f0a_36e2_eb1c_432d

-- |f - g| < d
abbrev closer_than : Float → Float → Float → Bool
closer_than d f g = lt (abs (f ⊖ g)) d

-- factors were given, and satisfy a test
abbrev given_with : Answer Vector → (Vector → Bool) → Bool
given_with (Ok v) t = t v
given_with (Err r) t = false

abbrev third : Float → Bool
third f = closer_than 10⁻¹⁵ f (1·0 ⊘ 3·0)

pub factors_of_a_sphere : given_with (factors_of 1·0 1·0 1·0) (λ v. third v.x && third v.y && third v.z) ≡ true
unfolding factors_of together factor rd duplications_d duplicate_d series_d series max_distance quarter loop_test rounds_from abs max Root of_bits add sub mul div lt le eq is_nan neg
factors_of_a_sphere = refl

pub along_a_prolate_spheroid : given_with (factors_of 2·0 1·0 1·0) (λ v. closer_than 0·00005 v.x 0·1736) ≡ true
unfolding factors_of together factor rd duplications_d duplicate_d series_d series max_distance quarter loop_test rounds_from abs max Root of_bits add sub mul div lt le eq is_nan neg
along_a_prolate_spheroid = refl

pub across_a_disc : given_with (factors_of 100·0 100·0 1·0) (λ v. closer_than 0·00005 v.z 0·9845) ≡ true
unfolding factors_of together factor rd duplications_d duplicate_d series_d series max_distance quarter loop_test rounds_from abs max Root of_bits add sub mul div lt le eq is_nan neg
across_a_disc = refl
