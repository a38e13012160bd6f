-- Carlson's R_C(x, y) = R_F(x, y, y) by duplication (Carlson 1995, section 2), with the roundings in the order of the Rust and at most 64 rounds. Definitions only.
use Rattle.std.specs.Prelude.{Bool, ◌&&◌, cond, ◌+◌, Float}
use Rattle.std.specs.Float.{nan}
use Rattle.std.specs.Float.Ieee.{neg, lt, le, eq}
use Rattle.std.specs.Float.Ieee.Scale.{finite}
use Rattle.doubles.specs.Rounded.{◌⊕◌, ◌⊖◌, ◌⊗◌, ◌⊘◌}
use Rattle.doubles.specs.Constants.{0·0, 1·0, 2·0, 3·0, 7·0, 8·0, 9·0, 10·0, +∞}
use Rattle.doubles.specs.Magnitude.{abs}
use Rattle.roots.specs.Root.{Root}
use Rattle.refusals.specs.Causes.{unless}
use Rattle.std.specs.Prelude.{Ok, Err}
use Rattle.refusals.specs.Answer.{Answer, or_answer}
use Rattle.refusals.specs.declared.Refusal.TheVariants.{OutsideDomain, TooManyRounds}
use Rattle.carlson.specs.Constants.{[3ε]^-⅛, 22·0, 159·0, 208·0}
use Rattle.carlson.specs.Rounds.{rounds}
use Rattle.carlson.specs.CarlsonLoop.{max_rounds, quarter, loop_test}
use Rattle.carlson.specs.declared.RoundC.{RoundC}

-- ---- y above zero

-- λₙ = 2 √xₙ √yₙ + yₙ
abbrev pub λC : RoundC → Float
λC d = 2·0 ⊗ Root d.x ⊗ Root d.y ⊕ d.y

-- one duplication, from round n to n + 1; f is 4⁻ⁿ
unfoldable pub duplicate_c : RoundC → RoundC
duplicate_c d = record {
  x = quarter (d.x ⊕ λC d);
  y = quarter (d.y ⊕ λC d);
  a = quarter (d.a ⊕ λC d);
  f = quarter d.f;
  n = d.n + 1;
}

abbrev pub A₀C : Float → Float → Float
A₀C x y = (x ⊕ 2·0 ⊗ y) ⊘ 3·0

abbrev pub QC : Float → Float → Float
QC x y = [3ε]^-⅛ ⊗ abs (A₀C x y ⊖ x)

abbrev pub test_c : Float → RoundC → Bool
test_c q d = loop_test q d.a d.f

-- the state after the loop
unfoldable pub duplications_c : Float → Float → RoundC
duplications_c x y = rounds (test_c (QC x y)) duplicate_c max_rounds (record { x = x; y = y; a = A₀C x y; f = 1·0; n = 0 })

-- 1 + s² (3/10 + s (1/7 + s (3/8 + s (9/22 + s (159/208 + 9s/8)))))
unfoldable pub series_c : Float → Float
series_c s =
    1·0
    ⊕ s ⊗ s ⊗ (3·0 ⊘ 10·0 ⊕ s ⊗ (1·0 ⊘ 7·0 ⊕ s ⊗ (3·0 ⊘ 8·0 ⊕ s ⊗ (9·0 ⊘ 22·0 ⊕ s ⊗ (159·0 ⊘ 208·0 ⊕ s ⊗ 9·0 ⊘ 8·0)))))

-- the series at s = (y - A₀) / (4ⁿ Aₙ), over √Aₙ; refused where the test still holds
abbrev pub ending : Float → Float → RoundC → Answer Float
ending x y d =
    let s = (y ⊖ A₀C x y) ⊗ d.f ⊘ d.a in
    cond (test_c (QC x y) d) (Err TooManyRounds) (Ok (series_c s ⊘ Root d.a))

unfoldable pub rc_above : Float → Float → Answer Float
rc_above x y = ending x y (duplications_c x y)

-- ---- all y

-- r times an integral: a refusal is passed on
abbrev pub times_integral : Float → Answer Float → Answer Float
times_integral r (Ok v) = Ok (r ⊗ v)
times_integral r (Err c) = Err c

-- y = 0 gives ∞; y < 0 the Cauchy principal value √(x / (x - y)) R_C(x - y, -y) (Carlson's Eq. 2.13a), where -y is above zero
unfoldable pub rc : Float → Float → Answer Float
rc x y =
    cond (eq y 0·0) (Ok +∞)
    (cond (lt y 0·0) (times_integral (Root (x ⊘ (x ⊖ y))) (rc_above (x ⊖ y) (neg y)))
    (rc_above x y))

-- the public call, refused by 14 unless both are finite and x ≥ 0
unfoldable pub carlson_rc : Float → Float → Answer Float
carlson_rc x y = or_answer (unless (finite x && finite y && le 0·0 x) OutsideDomain) (rc x y)

-- its value, and d where it is refused
abbrev pub value_or : Float → Answer Float → Float
value_or d (Ok v) = v
value_or d (Err c) = d

unfoldable pub rc_or : Float → Float → Float → Float
rc_or d x y = value_or d (rc x y)

-- for ln, atan and atan2, where it is never refused (special_laws, `AtMostSix`)
abbrev pub rc_value : Float → Float → Float
rc_value = rc_or nan
