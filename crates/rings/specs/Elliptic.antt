-- The complete elliptic integrals K(m) and E(m), of parameter m = k², by the arithmetic-geometric mean (Abramowitz & Stegun 17.6), with the roundings in the order
-- of the Rust. Definitions only.
use Rattle.std.specs.Prelude.{Bool, not, ◌&&◌, ℕ, Float}
use Rattle.std.specs.Float.Ieee.{lt, le}
use Rattle.doubles.specs.Rounded.{◌⊕◌, ◌⊖◌, ◌⊗◌, ◌⊘◌}
use Rattle.doubles.specs.Constants.{0·0, 0·5, 1·0, 2·0, ε, π/2}
use Rattle.roots.specs.Root.{Root}
use Rattle.refusals.specs.Causes.{unless}
use Rattle.std.specs.Prelude.{Ok}
use Rattle.refusals.specs.Answer.{Answer, or_answer}
use Rattle.refusals.specs.declared.Refusal.TheVariants.{OutsideDomain}
use Rattle.carlson.specs.Rounds.{rounds}
use Rattle.rings.specs.declared.Mean.{Mean}
use Rattle.rings.specs.declared.Complete.{Complete}

-- the Rust ends the loop after so many rounds, and refuses nothing
abbrev pub max_means : ℕ
max_means = 64

-- a₀ = 1, b₀ = √(1 - m), c₀ = √m; the sum is of 2ⁿ⁻¹ cₙ², and the weight 2ⁿ⁻¹
abbrev pub first_mean : Float → Mean
first_mean m = record { a = 1·0; b = Root (1·0 ⊖ m); c = Root m; sum = 0·5 ⊗ m; weight = 0·5 }

-- (a + b)/2, √(a b) and (a - b)/2
unfoldable pub next_mean : Mean → Mean
next_mean s =
    let c' = 0·5 ⊗ (s.a ⊖ s.b) in
    let w = s.weight ⊗ 2·0 in
    record { a = 0·5 ⊗ (s.a ⊕ s.b); b = Root (s.a ⊗ s.b); c = c'; sum = s.sum ⊕ w ⊗ c' ⊗ c'; weight = w }

-- not yet cₙ ≤ ε aₙ
unfoldable pub mean_test : Mean → Bool
mean_test s = not (le s.c (ε ⊗ s.a))

-- K = (π/2)/aₙ and E = K (1 - the sum)
unfoldable pub elliptic : Float → Complete
elliptic m =
    let s = rounds mean_test next_mean max_means (first_mean m) in
    let K = π/2 ⊘ s.a in
    record { k = K; e = K ⊗ (1·0 ⊖ s.sum) }

-- the public call, refused by 14 unless 0 ≤ m < 1
unfoldable pub complete_elliptic : Float → Answer Complete
complete_elliptic m = or_answer (unless (le 0·0 m && lt m 1·0) OutsideDomain) (Ok (elliptic m))
