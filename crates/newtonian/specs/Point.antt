-- The field of a mass point. At unit Gρ a cubature of 1/r sums the fields of its points: with d a point less the station, r = |d| and w its weight,
--
--   V: w/r,   gradient: w d/r³,   Hessian: w (3 d dᵀ − r² I)/r⁵
--
-- with the roundings in the order of the Rust's `cubature` and `tetrahedra`. Definitions only.
use Rattle.std.specs.Prelude.{Float}
use Rattle.doubles.specs.Rounded.{◌⊕◌, ◌⊖◌, ◌⊗◌, ◌⊘◌}
use Rattle.doubles.specs.Constants.{3·0}
use Rattle.roots.specs.Root.{Root}
use Rattle.newtonian.specs.declared.Vector.{Vector}
use Rattle.newtonian.specs.declared.Newtonian.{Newtonian}
use Rattle.newtonian.specs.Vectors.{dot, diagonal}

-- g + w d / q
abbrev pub add_point_gradient : Vector → Float → Vector → Float → Vector
add_point_gradient g w d q = record { x = g.x ⊕ w ⊗ d.x ⊘ q; y = g.y ⊕ w ⊗ d.y ⊘ q; z = g.z ⊕ w ⊗ d.z ⊘ q }

-- a row t of the Hessian, t + w (3 u d − e) / q; u is the row's entry of d, and e the row of r² I
abbrev pub add_point_row : Vector → Float → Float → Vector → Vector → Float → Vector
add_point_row t w u d e q = record {
  x = t.x ⊕ w ⊗ (3·0 ⊗ u ⊗ d.x ⊖ e.x) ⊘ q;
  y = t.y ⊕ w ⊗ (3·0 ⊗ u ⊗ d.y ⊖ e.y) ⊘ q;
  z = t.z ⊕ w ⊗ (3·0 ⊗ u ⊗ d.z ⊖ e.z) ⊘ q;
}

-- the sums f with the terms of the point d, of weight w
unfoldable pub add_point : Float → Vector → Newtonian → Newtonian
add_point w d f =
    let r² = dot d d in
    let r = Root r² in
    let r³ = r² ⊗ r in
    let r⁵ = r² ⊗ r² ⊗ r in
    let e = diagonal r² in
    record {
      potential = f.potential ⊕ w ⊘ r;
      gradient = add_point_gradient f.gradient w d r³;
      hessian = record {
        x = add_point_row f.hessian.x w d.x d e.x r⁵;
        y = add_point_row f.hessian.y w d.y d e.y r⁵;
        z = add_point_row f.hessian.z w d.z d e.z r⁵;
      };
    }
