-- A sphere of radius a centred at c, magnetised uniformly at m, seen from p: outside, the dipole of moment (4/3)πa³m; inside, the uniform (2/3)μ₀m. Both are Poisson's
-- relation (`body`) with the Hessian of the sphere's unit-density potential. With the roundings in the order of the Rust; a³ is document 01's (a·a)·a. Definitions only.
use Rattle.std.specs.Prelude.{Bool, ◌&&◌, cond, Float}
use Rattle.std.specs.Float.Ieee.{neg, lt}
use Rattle.doubles.specs.Rounded.{◌⊖◌, ◌⊗◌, ◌⊘◌}
use Rattle.doubles.specs.Constants.{0·0, 3·0, 4·0, π}
use Rattle.doubles.specs.Magnitude.{within_limits}
use Rattle.roots.specs.Root.{Root}
use Rattle.refusals.specs.Causes.{or_else, unless}
use Rattle.std.specs.Prelude.{Ok}
use Rattle.refusals.specs.Answer.{Answer, or_answer}
use Rattle.refusals.specs.declared.Refusal.TheVariants.{OutOfLimits, OutsideDomain}
use Rattle.newtonian.specs.Vectors.{difference, dot, diagonal, vector_within_limits}
use Rattle.newtonian.specs.declared.Vector.{Vector}
use Rattle.newtonian.specs.declared.Hessian.{Hessian}
use Rattle.anomaly.specs.Body.{μ₀/4π, body_of}
use Rattle.anomaly.specs.Limits.{both_within_limits}

-- row i of k (3 d dᵀ - r² I), where e is row i of r² I
unfoldable pub dipole_row : Float → Float → Vector → Vector → Vector
dipole_row k dᵢ d e = record {
  x = k ⊗ (3·0 ⊗ dᵢ ⊗ d.x ⊖ e.x);
  y = k ⊗ (3·0 ⊗ dᵢ ⊗ d.y ⊖ e.y);
  z = k ⊗ (3·0 ⊗ dᵢ ⊗ d.z ⊖ e.z);
}

-- outside, at d from the centre: k (3 d dᵀ - r² I), with r² = d·d and k = 4πa³/(3r⁵)
unfoldable pub sphere_outside : Float → Vector → Float → Hessian
sphere_outside a d r² =
    let k = 4·0 ⊗ π ⊗ (a ⊗ a ⊗ a) ⊘ (3·0 ⊗ r² ⊗ r² ⊗ Root r²) in
    let e = diagonal r² in
    record { x = dipole_row k d.x d e.x; y = dipole_row k d.y d e.y; z = dipole_row k d.z d e.z }

-- inside, -(4π/3) I
unfoldable pub sphere_hessian : Float → Vector → Hessian
sphere_hessian a d =
    let r² = dot d d in
    cond (lt r² (a ⊗ a)) (diagonal (neg 4·0 ⊗ π ⊘ 3·0)) (sphere_outside a d r²)

-- for any value μ of μ₀/4π
unfoldable pub sphere_of : Float → Vector → Vector → Float → Vector → Vector
sphere_of μ p c a m = body_of μ (sphere_hessian a (difference p c)) m

unfoldable pub sphere_within_limits : Vector → Vector → Float → Vector → Bool
sphere_within_limits p c a m = both_within_limits p c && vector_within_limits m && within_limits a

-- the public call, refused by 3, and by 14 unless a > 0
unfoldable pub sphere : Vector → Vector → Float → Vector → Answer Vector
sphere p c a m =
    or_answer (or_else (unless (sphere_within_limits p c a m) OutOfLimits) (unless (lt 0·0 a) OutsideDomain)) (Ok (sphere_of μ₀/4π p c a m))
