-- The worked figure of the Rust's documentation. States: `two_equations`: x + 2y = 5 and 3x + 4y = 6, with z = 0 as the third equation, give (-4, 4.5, 0), each
-- within 10⁻¹⁴. And of the choice of the pivot: `last_of_equals`: of 1, -1 and 1 the last; `nan-above-numbers`: a NaN before any number. Assumes nothing.
use Rattle.std.specs.Prelude.{◌≡◌, refl, Bool, true, false, ◌&&◌, Float}
use Rattle.std.specs.Float.{nan, binary64}
use Rattle.std.specs.Float.Ieee.{of_bits, add, sub, mul, div, neg, lt, le, eq, is_nan}
use Rattle.doubles.specs.Rounded.{◌⊖◌}
use Rattle.doubles.specs.Constants.{0·0, 1·0, 2·0, 3·0, 4·0, 5·0, 6·0, 10⁹, 10⁻¹⁴}
use Rattle.doubles.specs.Magnitude.{abs}
use Rattle.newtonian.specs.declared.Vector.{Vector}
use Rattle.linalg.specs.declared.Row.{Row}
use Rattle.linalg.specs.Gauss.{rows_of, takes, pivot_x, pivot_y, without_x, without_y, eliminate_x, eliminate_y, back_substituted, gauss}

abbrev row_of : Float → Float → Float → Float → Row
row_of x y z right = record { x = x; y = y; z = z; right = right }

abbrev 4·5 : Float
4·5 = of_bits binary64 0x4012_0000_0000_0000

abbrev close : Float → Float → Bool
close x y = lt (abs (x ⊖ y)) 10⁻¹⁴

abbrev solution : Vector
solution = gauss (rows_of (row_of 1·0 2·0 0·0 5·0) (row_of 3·0 4·0 0·0 6·0) (row_of 0·0 0·0 1·0 0·0))

pub two_equations : (close solution.x (neg 4·0) && close solution.y 4·5 && close solution.z 0·0) ≡ true
unfolding gauss back_substituted eliminate_x eliminate_y without_x without_y pivot_x pivot_y takes rows_of abs of_bits add sub mul div neg lt le eq is_nan
two_equations = refl

pub last_of_equals : (takes 1·0 (neg 1·0) && takes (neg 1·0) 1·0) ≡ true
unfolding takes abs of_bits neg lt le eq is_nan
last_of_equals = refl

pub nan-above-numbers : (takes 10⁹ nan ≡ true) × (takes nan 10⁹ ≡ false)
unfolding takes abs of_bits lt le eq is_nan
nan-above-numbers = (refl, refl)
