-- An infinite cylinder of radius a along a direction through q, magnetised uniformly at m, seen from p: outside, the two-dimensional dipole of the line moment πa²m;
-- inside, μ₀m/2 across the axis and μ₀m along it. Both are Poisson's relation (`body`) with the Hessian of the cylinder's unit-density potential. With the roundings
-- in the order of the Rust. Definitions only.
use Rattle.std.specs.Prelude.{Bool, ◌&&◌, cond, Float}
use Rattle.std.specs.Float.Ieee.{neg, lt}
use Rattle.doubles.specs.Rounded.{◌⊖◌, ◌⊗◌, ◌⊘◌}
use Rattle.doubles.specs.Constants.{0·0, 1·0, 2·0, π}
use Rattle.doubles.specs.Magnitude.{within_limits}
use Rattle.refusals.specs.Causes.{or_else, unless}
use Rattle.std.specs.Prelude.{Ok}
use Rattle.refusals.specs.Answer.{Answer, or_answer}
use Rattle.refusals.specs.declared.Refusal.TheVariants.{OutOfLimits, OutsideDomain}
use Rattle.newtonian.specs.Vectors.{difference, dot, norm, over, diagonal}
use Rattle.newtonian.specs.declared.Vector.{Vector}
use Rattle.newtonian.specs.declared.Hessian.{Hessian}
use Rattle.anomaly.specs.Body.{μ₀/4π, body_of}
use Rattle.anomaly.specs.Limits.{both_within_limits}

-- k v
unfoldable pub times_vector : Float → Vector → Vector
times_vector k v = record { x = k ⊗ v.x; y = k ⊗ v.y; z = k ⊗ v.z }

-- v - w u
unfoldable pub minus_times : Vector → Float → Vector → Vector
minus_times v w u = record { x = v.x ⊖ w ⊗ u.x; y = v.y ⊖ w ⊗ u.y; z = v.z ⊖ w ⊗ u.z }

-- P = I - u uᵀ, the projector across the axis of unit vector u
unfoldable pub projector : Vector → Hessian
projector u =
    let e = diagonal 1·0 in
    record { x = minus_times e.x u.x u; y = minus_times e.y u.y u; z = minus_times e.z u.z u }

-- inside, -2π P
unfoldable pub cylinder_inside : Hessian → Hessian
cylinder_inside P =
    let k = neg 2·0 ⊗ π in
    record { x = times_vector k P.x; y = times_vector k P.y; z = times_vector k P.z }

-- row i of k (2 ρ ρᵀ - r² P), where e is row i of P
unfoldable pub line_row : Float → Float → Vector → Float → Vector → Vector
line_row k ρᵢ ρ r² e = record {
  x = k ⊗ (2·0 ⊗ ρᵢ ⊗ ρ.x ⊖ r² ⊗ e.x);
  y = k ⊗ (2·0 ⊗ ρᵢ ⊗ ρ.y ⊖ r² ⊗ e.y);
  z = k ⊗ (2·0 ⊗ ρᵢ ⊗ ρ.z ⊖ r² ⊗ e.z);
}

-- outside, at ρ from the axis: k (2 ρ ρᵀ - r² P), with r² = ρ·ρ and k = 2πa²/r⁴
unfoldable pub cylinder_outside : Float → Vector → Float → Hessian → Hessian
cylinder_outside a ρ r² P =
    let k = 2·0 ⊗ π ⊗ a ⊗ a ⊘ (r² ⊗ r²) in
    record { x = line_row k ρ.x ρ r² P.x; y = line_row k ρ.y ρ r² P.y; z = line_row k ρ.z ρ r² P.z }

unfoldable pub cylinder_hessian : Float → Vector → Hessian → Hessian
cylinder_hessian a ρ P =
    let r² = dot ρ ρ in
    cond (lt r² (a ⊗ a)) (cylinder_inside P) (cylinder_outside a ρ r² P)

-- with the axis's unit vector u: ρ = d - (d·u) u for d = p - q. For any value μ of μ₀/4π.
unfoldable pub cylinder_of : Float → Vector → Vector → Vector → Float → Vector → Vector
cylinder_of μ p q u a m =
    let d = difference p q in
    body_of μ (cylinder_hessian a (minus_times d (dot d u) u) (projector u)) m

unfoldable pub cylinder_within_limits : Vector → Vector → Vector → Float → Vector → Bool
cylinder_within_limits p q axis a m = both_within_limits p q && both_within_limits axis m && within_limits a

-- the public call, refused by 3, and by 14 unless a > 0 and the axis's length, as computed, is above 0
unfoldable pub cylinder : Vector → Vector → Vector → Float → Vector → Answer Vector
cylinder p q axis a m =
    let n = norm axis in
    or_answer (or_else (unless (cylinder_within_limits p q axis a m) OutOfLimits) (unless (lt 0·0 a && lt 0·0 n) OutsideDomain))
    (Ok (cylinder_of μ₀/4π p q (over axis n) a m))
