-- Carlson's R_F(x, y, z) = 1/2 ∫ dt / √((t + x)(t + y)(t + z)) over t from 0 to ∞, by duplication (Carlson 1995, section 2), with the roundings in the order of the
-- Rust and at most 64 rounds. Definitions only.
use Rattle.std.specs.Prelude.{Bool, cond, Float}
use Rattle.std.specs.Float.Ieee.{neg}
use Rattle.doubles.specs.Rounded.{◌⊕◌, ◌⊖◌, ◌⊗◌, ◌⊘◌}
use Rattle.doubles.specs.Constants.{1·0, 3·0, 10·0, 24·0}
use Rattle.roots.specs.Root.{Root}
use Rattle.refusals.specs.declared.Refusal.TheVariants.{TooManyRounds}
use Rattle.carlson.specs.CarlsonLoop.{max_rounds, quarter, loop_test}
use Rattle.carlson.specs.Rounds.{rounds}
use Rattle.std.specs.Prelude.{Ok, Err}
use Rattle.refusals.specs.Answer.{Answer}
use Rattle.special_rf_rd.specs.Constants.{[3ε]^-⅙, 14·0, 44·0}
use Rattle.special_rf_rd.specs.Duplication.{λₙ, max_distance, X}
use Rattle.special_rf_rd.specs.declared.RoundF.{RoundF}

-- from round n to n + 1; f is 4⁻ⁿ
unfoldable pub duplicate_f : RoundF → RoundF
duplicate_f s =
    let l = λₙ s.x s.y s.z in
    record { x = quarter (s.x ⊕ l); y = quarter (s.y ⊕ l); z = quarter (s.z ⊕ l); a = quarter (s.a ⊕ l); f = quarter s.f }

abbrev pub test_f : Float → RoundF → Bool
test_f q s = loop_test q s.a s.f

abbrev pub A₀F : Float → Float → Float → Float
A₀F x y z = (x ⊕ y ⊕ z) ⊘ 3·0

abbrev pub QF : Float → Float → Float → Float
QF x y z = [3ε]^-⅙ ⊗ max_distance (A₀F x y z) x y z

-- 1 - E₂/10 + E₃/14 + E₂²/24 - 3E₂E₃/44, where Z = -X - Y, E₂ = XY - Z² and E₃ = XYZ
unfoldable pub series_f : Float → Float → Float
series_f X Y =
    let Z = neg X ⊖ Y in
    let E₂ = X ⊗ Y ⊖ Z ⊗ Z in
    let E₃ = X ⊗ Y ⊗ Z in
    1·0 ⊖ E₂ ⊘ 10·0 ⊕ E₃ ⊘ 14·0 ⊕ E₂ ⊗ E₂ ⊘ 24·0 ⊖ 3·0 ⊗ E₂ ⊗ E₃ ⊘ 44·0

-- the state after the loop
unfoldable pub duplications_f : Float → Float → Float → RoundF
duplications_f x y z = rounds (test_f (QF x y z)) duplicate_f max_rounds (record { x = x; y = y; z = z; a = A₀F x y z; f = 1·0 })

-- the series at X and Y over √Aₙ; refused where the test still holds
unfoldable pub rf : Float → Float → Float → Answer Float
rf x y z =
    let s = duplications_f x y z in
    let at : Float → Float = λ (w : Float). X (A₀F x y z) w s.f s.a in
    cond (test_f (QF x y z) s) (Err TooManyRounds) (Ok (series_f (at x) (at y) ⊘ Root s.a))
