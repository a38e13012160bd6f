-- Worked values of the definitions. Assumes nothing. States, as the Rust's documentation has them: `rc-is_π` and `rc_rounds_of_π`: R_C(0, 1/4) is π, after 4 rounds;
-- `K-of-half`, `E-of-half`: K(1/2) = 1.854074677301372 and E(1/2) = 1.350643881047675 within 10⁻¹⁴; `cel-is_K`: cel(√(1/2), 1, 1, 1) = K(1/2) within 10⁻¹⁴.
-- Besides, `ln_of_2`: ln 2 is LN2; `atan_of_1` and `atan_rounds_of_1`: atan 1 is π/4, after 3 rounds; `rf-rc-rd_check_values`, `rj_check_values`,
-- `rj_principal_check_values`: nine check values of Carlson 1995, section 3, within half a unit of the last digit printed; the paper was not at hand, so its
-- figures are still to be held against it. `ring-on_the_axis`, `ring_off_the_axis`: a ring's average and gradient within 10⁻¹⁴, on the axis 1/r and -z/r³.
use Rattle.std.specs.Prelude.{◌≡◌, refl, Bool, true, false, ◌&&◌, List, [], ◌∷◌, ℕ, ◌+◌, ◌-◌, ◌*◌, ◌^◌, leb, negsuc, Float}
use Rattle.std.specs.Bool.{beq}
use Rattle.std.specs.Float.{nan, inf, fin, binary64}
use Rattle.std.specs.Float.Ieee.{up, down, neg, of_int, of_bits, is_nan, round, add, sub, mul, div, lt, le, eq}
use Rattle.doubles.specs.Rounded.{◌⊖◌, ◌⊘◌}
use Rattle.doubles.specs.ConstantsAreNearest.{◌over◌}
use Rattle.doubles.specs.Constants.{0·0, 0·5, 1·0, 2·0, 3·0, 4·0, 5·0, 10⁻¹⁴, π, LN2}
use Rattle.doubles.specs.Magnitude.{abs, max, min}
use Rattle.roots.specs.Root.{Root}
use Rattle.std.specs.Prelude.{Ok, Err}
use Rattle.refusals.specs.Answer.{Answer}
use Rattle.carlson.specs.Rounds.{rounds_from}
use Rattle.carlson.specs.CarlsonLoop.{quarter, loop_test}
use Rattle.carlson.specs.Rc.{duplicate_c, duplications_c, series_c, rc_above, rc, rc_or}
use Rattle.carlson.specs.Logarithm.{ln_at, ln_by, ln}
use Rattle.carlson.specs.Arctangent.{atan_within, atan_by, atan}
use Rattle.special_rf_rd.specs.Duplication.{max_distance, series}
use Rattle.special_rf_rd.specs.Rf.{duplicate_f, series_f, duplications_f, rf}
use Rattle.special_rf_rd.specs.Rd.{duplicate_d, series_d, duplications_d, rd}
use Rattle.special_rj.specs.Rj.{plus, add_rc, duplicate_j, max_distance_j, series_j, duplications_j, rj_above, combine, rj_sorted, rj_below, rj}
use Rattle.rings.specs.Elliptic.{next_mean, mean_test, elliptic}
use Rattle.rings.specs.Ring.{off_axis, ∂ρ, ring_at}
use Rattle.rings.specs.declared.RingAverage.{RingAverage}
use Rattle.special_bulirsch.specs.Bulirsch.{first_half, second_half, turn, cel_test, cel_end, cel_of}
use Rattle.special_laws.specs.RoundsTaken.{rc_rounds, atan_rounds}

pub rc-is_π : rc 0·0 (fin false 1 (negsuc 1)) ≡ Ok π
unfolding rc rc_above duplications_c rounds_from duplicate_c quarter loop_test series_c abs Root of_bits add sub mul div lt le eq
rc-is_π = refl

pub rc_rounds_of_π : rc_rounds 0·0 (fin false 1 (negsuc 1)) ≡ 4
unfolding rc_rounds duplications_c rounds_from duplicate_c quarter loop_test abs Root of_bits add sub mul div lt le eq
rc_rounds_of_π = refl

pub ln_of_2 : ln 2·0 ≡ LN2
unfolding ln ln_by ln_at rc_or rc rc_above duplications_c rounds_from duplicate_c quarter loop_test series_c abs Root of_int of_bits add sub mul div lt le eq
ln_of_2 = refl

pub atan_of_1 : atan 1·0 ≡ π ⊘ 4·0
unfolding atan atan_by atan_within rc_or rc rc_above duplications_c rounds_from duplicate_c quarter loop_test series_c abs Root of_bits add sub mul div lt le eq is_nan
atan_of_1 = refl

pub atan_rounds_of_1 : atan_rounds 1·0 ≡ 3
unfolding atan_rounds rc_rounds duplications_c rounds_from duplicate_c quarter loop_test abs Root of_bits add sub mul div lt le eq is_nan
atan_rounds_of_1 = refl

abbrev close : Float → Float → Bool
close x y = lt (abs (x ⊖ y)) 10⁻¹⁴

abbrev 1·854074677301372 : Float
1·854074677301372 = of_bits binary64 0x3ffd_aa4a_3575_9e4c

abbrev 1·350643881047675 : Float
1·350643881047675 = of_bits binary64 0x3ff5_9c3c_c21a_46c6

pub K-of-half : close (elliptic 0·5).k 1·854074677301372 ≡ true
unfolding elliptic next_mean mean_test rounds_from abs Root of_bits add sub mul div lt le eq
K-of-half = refl

pub E-of-half : close (elliptic 0·5).e 1·350643881047675 ≡ true
unfolding elliptic next_mean mean_test rounds_from abs Root of_bits add sub mul div lt le eq
E-of-half = refl

pub cel-is_K : close (cel_of (Root 0·5) 1·0 1·0 1·0) (elliptic 0·5).k ≡ true
unfolding elliptic next_mean mean_test cel_of cel_end cel_test turn first_half second_half rounds_from abs Root of_bits add sub mul div lt le eq
cel-is_K = refl

-- ---- the ring

abbrev close_to : RingAverage → Float → Float → Float → Bool
close_to r v drho dz = close r.v v && close r.drho drho && close r.dz dz

-- R = 3, z = 4
pub ring-on_the_axis : close_to (ring_at 3·0 0·0 4·0) (1 over 5) 0·0 (neg (4 over 125)) ≡ true
unfolding ring_at ∂ρ elliptic next_mean mean_test rounds_from ◌over◌ round abs Root of_bits add sub mul div lt le eq
ring-on_the_axis = refl

-- R = 2, ρ = z = 1: the means over the ring of 1/r and of its derivatives, summed over 400 points of it with 40 digits
pub ring_off_the_axis :
    close_to (ring_at 2·0 1·0 1·0) (454413462627779 over (10 ^ 15)) (10043146144097 over (10 ^ 15)) (neg (118624938728993 over (10 ^ 15))) ≡ true
unfolding ring_at ∂ρ off_axis elliptic next_mean mean_test cel_of cel_end cel_test turn first_half second_half rounds_from ◌over◌ round abs Root of_bits add sub mul div lt le eq
ring_off_the_axis = refl

-- ---- Carlson's check values, in three lists: antt's limit of steps stops one test of all nine

-- |x - n / 10 ^ k| ≤ 1/2 / 10 ^ k, times 2 * 10 ^ k and x's denominator; and x has the sign s, which is true for a minus
abbrev has_digits : Float → Bool → ℕ → ℕ → Bool
has_digits nan s n k = false
has_digits (inf t) s n k = false
has_digits (fin t m e) s n k = let a = 2 * m * up e * 10 ^ k in let b = 2 * n * down e in beq s t && leb (a - b + (b - a)) (down e)

-- an integral and its decimal value: whether it is below zero, the digits with no point, and how many of them come after the point
pub record CheckValue : Type 0 where
  pub integral : Answer Float
  pub below-zero : Bool
  pub digits : ℕ
  pub places : ℕ

abbrev value_has_digits : Answer Float → Bool → ℕ → ℕ → Bool
value_has_digits (Ok x) s n k = has_digits x s n k
value_has_digits (Err r) s n k = false

pub all_agree : List CheckValue → Bool
all_agree [] = true
all_agree (c ∷ cs) = value_has_digits c.integral c.below-zero c.digits c.places && all_agree cs

infix 30 ◌is◌over10^◌ ◌is-minus◌over10^◌
abbrev ◌is◌over10^◌ : Answer Float → ℕ → ℕ → CheckValue
i is n over10^ k = record { integral = i; below-zero = false; digits = n; places = k }

abbrev ◌is-minus◌over10^◌ : Answer Float → ℕ → ℕ → CheckValue
i is-minus n over10^ k = record { integral = i; below-zero = true; digits = n; places = k }

pub rf-rc-rd_check_values :
    all_agree
    ((rf 1·0 2·0 0·0 is 13110287771461 over10^ 13)
    ∷ (rf 2·0 3·0 4·0 is 58408284167715 over10^ 14)
    ∷ (rc (fin false 1 (negsuc 1)) (neg 2·0) is 23104906018665 over10^ 14)
    ∷ (rd 0·0 2·0 1·0 is 17972103521034 over10^ 13)
    ∷ (rd 2·0 3·0 4·0 is 16510527294261 over10^ 14)
    ∷ [])
    ≡ true
unfolding all_agree rf duplications_f duplicate_f series_f max_distance rd duplications_d duplicate_d series_d rc rc_above duplications_c duplicate_c series_c series rounds_from max is_nan quarter loop_test abs Root of_bits add sub mul div lt le eq
rf-rc-rd_check_values = refl

pub rj_check_values : all_agree ((rj 0·0 1·0 2·0 3·0 is 77688623778582 over10^ 14) ∷ (rj 2·0 3·0 4·0 5·0 is 14297579667157 over10^ 14) ∷ []) ≡ true
unfolding all_agree rj rj_above duplications_j duplicate_j series_j max_distance_j add_rc plus rc rc_above duplications_c duplicate_c series_c series rounds_from max is_nan quarter loop_test abs Root of_bits add sub mul div lt le eq
rj_check_values = refl

pub rj_principal_check_values :
    all_agree ((rj 2·0 3·0 4·0 (neg 0·5) is 24723819703052 over10^ 14) ∷ (rj 2·0 3·0 4·0 (neg 5·0) is-minus 12711230042964 over10^ 14) ∷ []) ≡ true
unfolding all_agree rj rj_below rj_sorted combine rf duplications_f duplicate_f series_f max_distance rj_above duplications_j duplicate_j series_j max_distance_j add_rc plus rc rc_above duplications_c duplicate_c series_c series rounds_from max min is_nan quarter loop_test abs Root of_bits add sub mul div lt le eq
rj_principal_check_values = refl
