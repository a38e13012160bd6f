-- Vectors and matrices of lists of numbers, and a matrix's numbers. Definitions only.
use Rattle.std.specs.Prelude.{List, [], ◌∷◌, get_or, Float}
use Rattle.std.specs.Float.{nan}
use Rattle.newtonian.specs.declared.Vector.{Vector}
use Rattle.newtonian.specs.declared.Hessian.{Hessian}

unfoldable pub vector_of : List Float → Vector
vector_of v = record { x = get_or v 0 nan; y = get_or v 1 nan; z = get_or v 2 nan }

-- row by row
unfoldable pub hessian_of : List Float → Hessian
hessian_of t = record {
  x = record { x = get_or t 0 nan; y = get_or t 1 nan; z = get_or t 2 nan };
  y = record { x = get_or t 3 nan; y = get_or t 4 nan; z = get_or t 5 nan };
  z = record { x = get_or t 6 nan; y = get_or t 7 nan; z = get_or t 8 nan };
}

-- a matrix row by row
unfoldable pub hessian_numbers : Hessian → List Float
hessian_numbers d = d.x.x ∷ d.x.y ∷ d.x.z ∷ d.y.x ∷ d.y.y ∷ d.y.z ∷ d.z.x ∷ d.z.y ∷ d.z.z ∷ []
