-- The field of a rectangular prism by a Gauss-Legendre cubature of 1/r over it, with the roundings in the order of the Rust: at unit Gρ, the sum of the fields of
-- the points (`add_point` of newtonian). p is the station; lo and hi are the corners min and max. Definitions only.
use Rattle.std.specs.Prelude.{ℕ, Float}
use Rattle.doubles.specs.Rounded.{◌⊕◌, ◌⊖◌, ◌⊗◌}
use Rattle.doubles.specs.Constants.{0·5}
use Rattle.legendre.specs.GaussLegendre.{node, weight}
use Rattle.newtonian.specs.Fold.{Fold}
use Rattle.newtonian.specs.Vectors.{zero_field}
use Rattle.newtonian.specs.Point.{add_point}
use Rattle.newtonian.specs.declared.Vector.{Vector}
use Rattle.newtonian.specs.declared.Newtonian.{Newtonian}

-- ---- the nodes on each axis

unfoldable pub half_widths : Vector → Vector → Vector
half_widths lo hi = record { x = 0·5 ⊗ (hi.x ⊖ lo.x); y = 0·5 ⊗ (hi.y ⊖ lo.y); z = 0·5 ⊗ (hi.z ⊖ lo.z) }

-- the node u of [−1, 1] on a side from lo to hi of half-width h, less the station's coordinate
unfoldable pub offset : Float → Float → Float → Float → Float → Float
offset p lo hi h u = 0·5 ⊗ (lo ⊕ hi) ⊕ h ⊗ u ⊖ p

-- a point's weight: the rules' weights along x, y and z, of which w is the product of the first two, and the half-widths, multiplied from left to right
unfoldable pub point_weight : Float → Float → Vector → Float
point_weight w wz h = w ⊗ wz ⊗ h.x ⊗ h.y ⊗ h.z

-- ---- the three sums, of orders l, m and n along x, y and z

module _ (p lo hi : Vector) where
  -- adds the point of the line at x and y that is node k along z. w is the product of the weights along x and y.
  abbrev pub point : ℕ → Float → Float → Float → ℕ → Newtonian → Newtonian
  point n w x y k =
      let h = half_widths lo hi in
      add_point (point_weight w (weight n k) h) (record { x = x; y = y; z = offset p.z lo.z hi.z h.z (node n k) })

  -- adds the line of n points at x that is node j along y
  abbrev pub line : ℕ → ℕ → Float → Float → ℕ → Newtonian → Newtonian
  line m n w x j =
      Fold n (point n (w ⊗ weight m j) x (offset p.y lo.y hi.y (half_widths lo hi).y (node m j)))

  -- adds the layer of m lines that is node i along x
  abbrev pub layer : ℕ → ℕ → ℕ → ℕ → Newtonian → Newtonian
  layer l m n i =
      Fold m (line m n (weight l i) (offset p.x lo.x hi.x (half_widths lo hi).x (node l i)))

unfoldable pub cubature : Vector → Vector → Vector → ℕ → ℕ → ℕ → Newtonian
cubature p lo hi l m n = Fold l (layer p lo hi l m n) zero_field
