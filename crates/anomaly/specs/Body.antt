-- The magnetic field of a uniformly magnetised body, from the Hessian T of its unit-density potential at a point, inside or outside: Poisson's relation
-- B = (μ₀/4π)(T - I tr T)·m (Poisson 1826; Blakely, Potential Theory in Gravity and Magnetic Applications, 1995, ch. 5), with the roundings in the order of the Rust.
-- Definitions only.
use Rattle.std.specs.Prelude.{◌&&◌, Float}
use Rattle.doubles.specs.Rounded.{◌⊕◌, ◌⊖◌, ◌⊗◌}
use Rattle.doubles.specs.Constants.{10⁻⁷, -0·0}
use Rattle.refusals.specs.Causes.{unless}
use Rattle.std.specs.Prelude.{Ok}
use Rattle.refusals.specs.Answer.{Answer, or_answer}
use Rattle.refusals.specs.declared.Refusal.TheVariants.{OutOfLimits}
use Rattle.newtonian.specs.Vectors.{vector_within_limits}
use Rattle.newtonian.specs.declared.Vector.{Vector}
use Rattle.newtonian.specs.declared.Hessian.{Hessian}
use Rattle.anomaly.specs.Limits.{hessian_within_limits}

-- document 01: the double nearest 10⁻⁷
abbrev pub μ₀/4π : Float
μ₀/4π = 10⁻⁷

unfoldable pub trace : Hessian → Float
trace T = T.x.x ⊕ T.y.y ⊕ T.z.z

-- a row of T times m, summed from -0 as by the Rust's `.sum()`
unfoldable pub row_times : Vector → Vector → Float
row_times t m = -0·0 ⊕ t.x ⊗ m.x ⊕ t.y ⊗ m.y ⊕ t.z ⊗ m.z

-- μ (T - I tr T)·m, for any value μ of the constant
unfoldable pub body_of : Float → Hessian → Vector → Vector
body_of μ T m = record {
  x = μ ⊗ (row_times T.x m ⊖ trace T ⊗ m.x);
  y = μ ⊗ (row_times T.y m ⊖ trace T ⊗ m.y);
  z = μ ⊗ (row_times T.z m ⊖ trace T ⊗ m.z);
}

-- the public call, refused by 3
unfoldable pub body : Hessian → Vector → Answer Vector
body T m = or_answer (unless (hessian_within_limits T && vector_within_limits m) OutOfLimits) (Ok (body_of μ₀/4π T m))
