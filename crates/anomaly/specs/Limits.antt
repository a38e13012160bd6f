-- Refusal 3's test of two vectors, and of the nine numbers of a matrix. Definitions only.
use Rattle.std.specs.Prelude.{Bool, ◌&&◌}
use Rattle.newtonian.specs.Vectors.{vector_within_limits}
use Rattle.newtonian.specs.declared.Vector.{Vector}
use Rattle.newtonian.specs.declared.Hessian.{Hessian}

unfoldable pub both_within_limits : Vector → Vector → Bool
both_within_limits a b = vector_within_limits a && vector_within_limits b

unfoldable pub hessian_within_limits : Hessian → Bool
hessian_within_limits T = vector_within_limits T.x && vector_within_limits T.y && vector_within_limits T.z
