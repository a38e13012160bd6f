-- Carlson's R_D(x, y, z) = 3/2 ∫ dt / ((t + z) √((t + x)(t + y)(t + z))) over t from 0 to ∞, by duplication (Carlson 1995, section 2), with the roundings in
-- the order of the Rust and at most 64 rounds. Definitions only.
use Rattle.std.specs.Prelude.{Bool, cond, Float}
use Rattle.std.specs.Float.Ieee.{neg}
use Rattle.doubles.specs.Rounded.{◌⊕◌, ◌⊖◌, ◌⊗◌, ◌⊘◌}
use Rattle.doubles.specs.Constants.{0·0, 1·0, 3·0, 5·0, 6·0, 8·0}
use Rattle.roots.specs.Root.{Root}
use Rattle.refusals.specs.declared.Refusal.TheVariants.{TooManyRounds}
use Rattle.carlson.specs.CarlsonLoop.{max_rounds, quarter, loop_test}
use Rattle.carlson.specs.Rounds.{rounds}
use Rattle.std.specs.Prelude.{Ok, Err}
use Rattle.refusals.specs.Answer.{Answer}
use Rattle.special_rf_rd.specs.Constants.{[ε/4]^-⅙}
use Rattle.special_rf_rd.specs.Duplication.{λₙ, max_distance, X, cube, series}
use Rattle.special_rf_rd.specs.declared.RoundD.{RoundD}

-- from round n to n + 1, which adds 4⁻ⁿ / (√zₙ (zₙ + λₙ)) to the sum; f is 4⁻ⁿ
unfoldable pub duplicate_d : RoundD → RoundD
duplicate_d s =
    let l = λₙ s.x s.y s.z in
    record {
      x = quarter (s.x ⊕ l);
      y = quarter (s.y ⊕ l);
      z = quarter (s.z ⊕ l);
      a = quarter (s.a ⊕ l);
      f = quarter s.f;
      sum = s.sum ⊕ s.f ⊘ (Root s.z ⊗ (s.z ⊕ l));
    }

abbrev pub test_d : Float → RoundD → Bool
test_d q s = loop_test q s.a s.f

abbrev pub A₀D : Float → Float → Float → Float
A₀D x y z = (x ⊕ y ⊕ 3·0 ⊗ z) ⊘ 5·0

abbrev pub QD : Float → Float → Float → Float
QD x y z = [ε/4]^-⅙ ⊗ max_distance (A₀D x y z) x y z

-- the series at Z = -(X + Y)/3, E₂ = XY - 6Z², E₃ = (3XY - 8Z²)Z, E₄ = 3(XY - Z²)Z² and E₅ = XYZ³
unfoldable pub series_d : Float → Float → Float
series_d X Y =
    let Z = neg (X ⊕ Y) ⊘ 3·0 in
    series (X ⊗ Y ⊖ 6·0 ⊗ Z ⊗ Z) ((3·0 ⊗ X ⊗ Y ⊖ 8·0 ⊗ Z ⊗ Z) ⊗ Z) (3·0 ⊗ (X ⊗ Y ⊖ Z ⊗ Z) ⊗ Z ⊗ Z) (X ⊗ Y ⊗ cube Z)

-- the state after the loop
unfoldable pub duplications_d : Float → Float → Float → RoundD
duplications_d x y z = rounds (test_d (QD x y z)) duplicate_d max_rounds (record { x = x; y = y; z = z; a = A₀D x y z; f = 1·0; sum = 0·0 })

-- 4⁻ⁿ Aₙ^(-3/2) times the series at X and Y, and three times the sum; refused where the test still holds
unfoldable pub rd : Float → Float → Float → Answer Float
rd x y z =
    let s = duplications_d x y z in
    let at : Float → Float = λ (w : Float). X (A₀D x y z) w s.f s.a in
    cond (test_d (QD x y z) s) (Err TooManyRounds)
    (Ok (s.f ⊘ (s.a ⊗ Root s.a) ⊗ series_d (at x) (at y) ⊕ 3·0 ⊗ s.sum))
