-- Vectors of three doubles, and fields: at unit Gρ the potential, which is the integral of 1/r over the body's volume, its gradient, which is the attraction, and its
-- Hessian, the gravity-gradient tensor. Each operation is rounded, and sums go from left to right, as in the Rust. Definitions only.
use Rattle.std.specs.Prelude.{Bool, ◌&&◌, List, [], ◌∷◌, ℕ, Float}
use Rattle.doubles.specs.Rounded.{◌⊕◌, ◌⊖◌, ◌⊗◌, ◌⊘◌}
use Rattle.doubles.specs.Constants.{0·0}
use Rattle.doubles.specs.Magnitude.{within_limits}
use Rattle.roots.specs.Root.{Root}
use Rattle.newtonian.specs.declared.Vector.{Vector}
use Rattle.newtonian.specs.declared.Hessian.{Hessian}
use Rattle.newtonian.specs.declared.Newtonian.{Newtonian}

unfoldable pub difference : Vector → Vector → Vector
difference a b = record { x = a.x ⊖ b.x; y = a.y ⊖ b.y; z = a.z ⊖ b.z }

unfoldable pub dot : Vector → Vector → Float
dot a b = a.x ⊗ b.x ⊕ a.y ⊗ b.y ⊕ a.z ⊗ b.z

-- |a|
unfoldable pub norm : Vector → Float
norm a = Root (dot a a)

unfoldable pub cross : Vector → Vector → Vector
cross a b = record { x = a.y ⊗ b.z ⊖ a.z ⊗ b.y; y = a.z ⊗ b.x ⊖ a.x ⊗ b.z; z = a.x ⊗ b.y ⊖ a.y ⊗ b.x }

-- a / n
unfoldable pub over : Vector → Float → Vector
over a n = record { x = a.x ⊘ n; y = a.y ⊘ n; z = a.z ⊘ n }

-- k I: k on the diagonal, +0 elsewhere
unfoldable pub diagonal : Float → Hessian
diagonal k = record {
  x = record { x = k; y = 0·0; z = 0·0 };
  y = record { x = 0·0; y = k; z = 0·0 };
  z = record { x = 0·0; y = 0·0; z = k };
}

abbrev pub add_vectors : Vector → Vector → Vector
add_vectors a b = record { x = a.x ⊕ b.x; y = a.y ⊕ b.y; z = a.z ⊕ b.z }

unfoldable pub add_fields : Newtonian → Newtonian → Newtonian
add_fields f g = record {
  potential = f.potential ⊕ g.potential;
  gradient = add_vectors f.gradient g.gradient;
  hessian = record {
    x = add_vectors f.hessian.x g.hessian.x;
    y = add_vectors f.hessian.y g.hessian.y;
    z = add_vectors f.hessian.z g.hessian.z;
  };
}

-- all thirteen numbers +0
unfoldable pub zero_field : Newtonian
zero_field =
    let o : Vector = record { x = 0·0; y = 0·0; z = 0·0 } in
    record { potential = 0·0; gradient = o; hessian = record { x = o; y = o; z = o } }

-- refusal 3's test of a vector
unfoldable pub vector_within_limits : Vector → Bool
vector_within_limits v = within_limits v.x && within_limits v.y && within_limits v.z

-- ---- the numbers in order

abbrev pub vector_numbers : Vector → List Float
vector_numbers v = v.x ∷ v.y ∷ v.z ∷ []

-- how many numbers a field has
abbrev pub field_size : ℕ
field_size = 13

-- the potential, the gradient, and the Hessian row by row
unfoldable pub field_numbers : Newtonian → List Float
field_numbers f =
    f.potential ∷ f.gradient.x ∷ f.gradient.y ∷ f.gradient.z ∷
    f.hessian.x.x ∷ f.hessian.x.y ∷ f.hessian.x.z ∷
    f.hessian.y.x ∷ f.hessian.y.y ∷ f.hessian.y.z ∷
    f.hessian.z.x ∷ f.hessian.z.y ∷ f.hessian.z.z ∷ []
