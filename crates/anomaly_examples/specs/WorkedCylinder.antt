-- Worked values of the cylinder, for μ₀/4π = 1 and the axis z. States, each number within 10⁻¹⁴: `inside_a_cylinder`: a magnetisation of 1 has the field μ₀/2 = 2π
-- across the axis, and μ₀ = 4π along it; `outside_a_cylinder`: at twice the radius it has a quarter of that across the axis: along itself where it points away from the
-- axis, and against itself where it points aside. Assumes nothing.
use Rattle.std.specs.Prelude.{◌≡◌, refl, Bool, true, ◌&&◌, Float}
use Rattle.std.specs.Float.Ieee.{neg, of_bits, add, sub, mul, div, lt}
use Rattle.doubles.specs.Rounded.{◌⊖◌, ◌⊗◌}
use Rattle.doubles.specs.Constants.{0·0, 1·0, 2·0, 4·0, 10⁻¹⁴, π, π/2}
use Rattle.doubles.specs.Magnitude.{abs}
use Rattle.newtonian.specs.Vectors.{difference, dot, diagonal}
use Rattle.newtonian.specs.declared.Vector.{Vector}
use Rattle.anomaly.specs.Body.{trace, row_times, body_of}
use Rattle.anomaly.specs.WorkedExamples.{vector}
use Rattle.anomaly_cylinder.specs.Cylinder.{times_vector, minus_times, projector, cylinder_inside, line_row, cylinder_outside, cylinder_hessian, cylinder_of}

-- at x from the axis of a cylinder of radius 2
abbrev cylinder_field : Float → Vector → Vector
cylinder_field x m = cylinder_of 1·0 (vector x 0·0 0·0) (vector 0·0 0·0 0·0) (vector 0·0 0·0 1·0) 2·0 m

abbrev close : Float → Float → Bool
close x y = lt (abs (x ⊖ y)) 10⁻¹⁴

abbrev close_vectors : Vector → Vector → Bool
close_vectors v w = close v.x w.x && close v.y w.y && close v.z w.z

pub inside_a_cylinder : close_vectors (cylinder_field 1·0 (vector 1·0 0·0 1·0)) (vector (2·0 ⊗ π) 0·0 (4·0 ⊗ π)) ≡ true
unfolding cylinder_of cylinder_hessian cylinder_inside projector times_vector minus_times body_of trace row_times difference dot diagonal abs of_bits add sub mul div lt
inside_a_cylinder = refl

pub outside_a_cylinder : close_vectors (cylinder_field 4·0 (vector 1·0 1·0 0·0)) (vector π/2 (neg π/2) 0·0) ≡ true
unfolding cylinder_of cylinder_hessian cylinder_outside line_row projector minus_times body_of trace row_times difference dot diagonal abs of_bits add sub mul div lt
outside_a_cylinder = refl
