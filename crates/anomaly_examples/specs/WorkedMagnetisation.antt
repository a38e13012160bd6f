-- A worked value of the magnetisation. States: `magnetisation_of_a_sphere`: a sphere, whose demagnetising factors are 1/3, of susceptibility χ = 3 in a field of 4
-- is magnetised at χ/(1 + χ/3) times the field, which is 6, within 10⁻¹⁴. Assumes nothing.
use Rattle.std.specs.Prelude.{◌≡◌, refl, Bool, true, ◌&&◌, Float}
use Rattle.std.specs.Float.Ieee.{round, of_bits, add, sub, mul, div, neg, lt, le, eq, is_nan}
use Rattle.doubles.specs.Rounded.{◌⊖◌}
use Rattle.doubles.specs.ConstantsAreNearest.{◌over◌}
use Rattle.doubles.specs.Constants.{0·0, 3·0, 4·0, 6·0, 10⁻¹⁴}
use Rattle.doubles.specs.Magnitude.{abs}
use Rattle.newtonian.specs.Vectors.{diagonal}
use Rattle.newtonian.specs.declared.Vector.{Vector}
use Rattle.anomaly.specs.WorkedExamples.{vector}
use Rattle.linalg.specs.Gauss.{rows_of, takes, pivot_x, pivot_y, without_x, without_y, eliminate_x, eliminate_y, back_substituted, gauss}
use Rattle.demagnetisation.specs.Magnetisation.{equation, magnetisation_of}

abbrev close : Float → Float → Bool
close x y = lt (abs (x ⊖ y)) 10⁻¹⁴

abbrev of_sphere : Vector
of_sphere = magnetisation_of 3·0 (vector 0·0 0·0 4·0) (vector 0·0 0·0 0·0) (diagonal (1 over 3))

pub magnetisation_of_a_sphere : (close of_sphere.x 0·0 && close of_sphere.y 0·0 && close of_sphere.z 6·0) ≡ true
unfolding magnetisation_of equation gauss back_substituted eliminate_x eliminate_y without_x without_y pivot_x pivot_y takes rows_of diagonal ◌over◌ round abs of_bits add sub mul div neg lt le eq is_nan
magnetisation_of_a_sphere = refl
