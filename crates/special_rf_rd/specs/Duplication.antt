-- What R_F, R_D and R_J share (Carlson 1995, section 2), with the roundings in the order of the Rust. Definitions only.
use Rattle.std.specs.Prelude.{Float}
use Rattle.doubles.specs.Rounded.{◌⊕◌, ◌⊖◌, ◌⊗◌, ◌⊘◌}
use Rattle.doubles.specs.Constants.{1·0, 3·0, 6·0, 9·0}
use Rattle.doubles.specs.Magnitude.{abs, max}
use Rattle.roots.specs.Root.{Root}
use Rattle.carlson.specs.Constants.{22·0}
use Rattle.special_rf_rd.specs.Constants.{14·0, 26·0, 52·0, 88·0}

-- λₙ = √xₙ √yₙ + √xₙ √zₙ + √yₙ √zₙ
abbrev pub λₙ : Float → Float → Float → Float
λₙ x y z = Root x ⊗ Root y ⊕ Root x ⊗ Root z ⊕ Root y ⊗ Root z

-- max(|A₀ - x|, |A₀ - y|, |A₀ - z|), which passes over a NaN
unfoldable pub max_distance : Float → Float → Float → Float → Float
max_distance A₀ x y z = max (max (abs (A₀ ⊖ x)) (abs (A₀ ⊖ y))) (abs (A₀ ⊖ z))

-- X = (A₀ - x) / (4ⁿ Aₙ); f is 4⁻ⁿ
abbrev pub X : Float → Float → Float → Float → Float
X A₀ x f A = (A₀ ⊖ x) ⊗ f ⊘ A

abbrev pub cube : Float → Float
cube w = w ⊗ w ⊗ w

-- 1 - 3E₂/14 + E₃/6 + 9E₂²/88 - 3E₄/22 - 9E₂E₃/52 + 3E₅/26, which ends R_D and R_J
unfoldable pub series : Float → Float → Float → Float → Float
series E₂ E₃ E₄ E₅ =
    1·0 ⊖ 3·0 ⊗ E₂ ⊘ 14·0 ⊕ E₃ ⊘ 6·0 ⊕ 9·0 ⊗ E₂ ⊗ E₂ ⊘ 88·0 ⊖ 3·0 ⊗ E₄ ⊘ 22·0 ⊖ 9·0 ⊗ E₂ ⊗ E₃ ⊘ 52·0 ⊕ 3·0 ⊗ E₅ ⊘ 26·0
