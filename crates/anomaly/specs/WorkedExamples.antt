-- Document 01's reference value. States: `total_field_of_3_4_0`: the total field of (0, 0, 0) and (3, 4, 0) is 5. Assumes nothing.
use Rattle.std.specs.Prelude.{◌≡◌, refl, Float}
use Rattle.std.specs.Float.Ieee.{of_bits, add, mul, div}
use Rattle.doubles.specs.Constants.{0·0, 3·0, 4·0, 5·0}
use Rattle.roots.specs.Root.{Root}
use Rattle.newtonian.specs.Vectors.{dot, norm}
use Rattle.newtonian.specs.declared.Vector.{Vector}
use Rattle.anomaly.specs.TotalField.{total_field_of}

abbrev pub vector : Float → Float → Float → Vector
vector x y z = record { x = x; y = y; z = z }

pub total_field_of_3_4_0 : total_field_of (vector 0·0 0·0 0·0) (vector 3·0 4·0 0·0) ≡ 5·0
unfolding total_field_of norm dot Root of_bits add mul div
total_field_of_3_4_0 = refl
