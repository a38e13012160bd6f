-- The magnetisation of a body of isotropic susceptibility χ and remanence Mr in the field H₀ = F/μ₀, given the rows of its demagnetising tensor N: M = (I +
-- χN)⁻¹(χH₀ + Mr) (Clark, Saul & Emerson 1986, Eq. 38; Takahashi & Oliveira 2017, Eqs. 49–50), by Gaussian elimination; and the Königsberger ratio Q = |Mr|/(χ|H₀|)
-- of remanent to induced magnetisation (Koenigsberger 1938). With the roundings in the order of the Rust. Definitions only.
use Rattle.std.specs.Prelude.{Bool, ◌&&◌, Float}
use Rattle.doubles.specs.Rounded.{◌⊕◌, ◌⊗◌, ◌⊘◌}
use Rattle.doubles.specs.Constants.{1·0}
use Rattle.doubles.specs.Magnitude.{within_limits}
use Rattle.refusals.specs.Causes.{unless}
use Rattle.std.specs.Prelude.{Ok}
use Rattle.refusals.specs.Answer.{Answer, or_answer}
use Rattle.refusals.specs.declared.Refusal.TheVariants.{OutOfLimits}
use Rattle.newtonian.specs.Vectors.{norm, diagonal}
use Rattle.newtonian.specs.declared.Vector.{Vector}
use Rattle.newtonian.specs.declared.Hessian.{Hessian}
use Rattle.anomaly.specs.Limits.{both_within_limits, hessian_within_limits}
use Rattle.linalg.specs.declared.Row.{Row}
use Rattle.linalg.specs.Gauss.{rows_of, gauss}

-- ---- the magnetisation

-- an equation of (I + χN) M = χH₀ + Mr: e and n are the rows of I and of N, h and r the entries of H₀ and of Mr
unfoldable pub equation : Float → Vector → Vector → Float → Float → Row
equation χ e n h r = record { x = e.x ⊕ χ ⊗ n.x; y = e.y ⊕ χ ⊗ n.y; z = e.z ⊕ χ ⊗ n.z; right = χ ⊗ h ⊕ r }

-- M, from the three equations
unfoldable pub magnetisation_of : Float → Vector → Vector → Hessian → Vector
magnetisation_of χ H₀ Mr N =
    let I = diagonal 1·0 in
    gauss
    (rows_of
    (equation χ I.x N.x H₀.x Mr.x)
    (equation χ I.y N.y H₀.y Mr.y)
    (equation χ I.z N.z H₀.z Mr.z))

unfoldable pub magnetisation_within_limits : Float → Vector → Vector → Hessian → Bool
magnetisation_within_limits χ H₀ Mr N = both_within_limits H₀ Mr && hessian_within_limits N && within_limits χ

-- the public call, refused by 3
unfoldable pub magnetisation : Float → Vector → Vector → Hessian → Answer Vector
magnetisation χ H₀ Mr N = or_answer (unless (magnetisation_within_limits χ H₀ Mr N) OutOfLimits) (Ok (magnetisation_of χ H₀ Mr N))

-- ---- the Königsberger ratio

unfoldable pub koenigsberger_of : Vector → Float → Vector → Float
koenigsberger_of Mr χ H₀ = norm Mr ⊘ (χ ⊗ norm H₀)

-- the public call, refused by 3
unfoldable pub koenigsberger : Vector → Float → Vector → Answer Float
koenigsberger Mr χ H₀ = or_answer (unless (both_within_limits Mr H₀ && within_limits χ) OutOfLimits) (Ok (koenigsberger_of Mr χ H₀))
