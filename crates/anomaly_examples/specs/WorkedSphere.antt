-- The worked figure of the Rust's documentation. States: `above_a_sphere`: a 5 m sphere, its centre 20 m down, that is magnetised at 1 A/m along a vertical field of
-- 50,000 n_t adds 13.09 n_t straight above it (Blakely's 2μ₀m/4πz³), within 0.01 n_t. Assumes nothing.
use Rattle.std.specs.Prelude.{◌≡◌, refl, true, Float}
use Rattle.std.specs.Float.{binary64}
use Rattle.std.specs.Float.Ieee.{of_bits, add, sub, mul, div, lt}
use Rattle.doubles.specs.Rounded.{◌⊖◌, ◌⊗◌, ◌⊘◌}
use Rattle.doubles.specs.Constants.{0·0, 1·0, 5·0}
use Rattle.doubles.specs.Magnitude.{abs}
use Rattle.roots.specs.Root.{Root}
use Rattle.newtonian.specs.Vectors.{difference, dot, norm, diagonal}
use Rattle.newtonian.specs.declared.Vector.{Vector}
use Rattle.anomaly.specs.Body.{μ₀/4π, trace, row_times, body_of}
use Rattle.anomaly.specs.TotalField.{total_field_of}
use Rattle.anomaly.specs.WorkedExamples.{vector}
use Rattle.anomaly_sphere.specs.Sphere.{dipole_row, sphere_outside, sphere_hessian, sphere_of}

abbrev 20·0 : Float
20·0 = of_bits binary64 0x4034_0000_0000_0000

abbrev 50000·0 : Float
50000·0 = of_bits binary64 0x40e8_6a00_0000_0000

abbrev 13·09 : Float
13·09 = of_bits binary64 0x402a_2e14_7ae1_47ae

abbrev 0·01 : Float
0·01 = of_bits binary64 0x3f84_7ae1_47ae_147b

-- 10⁻⁹ T
abbrev n_t : Float
n_t = of_bits binary64 0x3e11_2e0b_e826_d695

-- straight down, in x north, y east, z down
abbrev downward : Float → Vector
downward z = vector 0·0 0·0 z

pub above_a_sphere : lt (abs (total_field_of (downward (50000·0 ⊗ n_t)) (sphere_of μ₀/4π (downward 0·0) (downward 20·0) 5·0 (downward 1·0)) ⊘ n_t ⊖ 13·09)) 0·01 ≡ true
unfolding total_field_of norm sphere_of sphere_hessian sphere_outside dipole_row body_of trace row_times diagonal difference dot Root abs of_bits add sub mul div lt
above_a_sphere = refl
