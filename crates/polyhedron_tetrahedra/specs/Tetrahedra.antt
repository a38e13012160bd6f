-- The far field of a polyhedron, with the roundings in the order of the Rust: the cubature of 1/r over the signed tetrahedra ABCD from an apex A to each face BCD, with
-- 6-point Gauss-Legendre on each axis of the cube that Duffy's map collapses onto the tetrahedron,
--
--   x = A + u [(B − A) + v ((C − B) + t (D − C))],   Jacobian 6 Vol u² v
--
-- The faces' fields are added with Neumaier's compensation. p is the station, v the vertex list and f the face list. Definitions only.
use Rattle.std.specs.Prelude.{ℕ, List, Float}
use Rattle.doubles.specs.Rounded.{◌⊕◌, ◌⊗◌}
use Rattle.newtonian.specs.Fold.{Fold}
use Rattle.newtonian.specs.Vectors.{difference, dot, cross, zero_field, field_numbers}
use Rattle.newtonian.specs.declared.Vector.{Vector}
use Rattle.newtonian.specs.declared.Newtonian.{Newtonian}
use Rattle.newtonian.specs.Point.{add_point}
use Rattle.mesh.specs.Surface.{face_count, corner}
use Rattle.polyhedron_neumaier.specs.Neumaier.{no_sums, add_terms, totals}
use Rattle.polyhedron_neumaier.specs.declared.Pair.{Pair}
use Rattle.polyhedron_tetrahedra.specs.Mapped.{points, mapped_node, mapped_weight}
use Rattle.polyhedron_tetrahedra.specs.declared.Tetrahedron.{Tetrahedron}

-- ---- a tetrahedron

-- the tetrahedron from the apex a to the face with the corners b, c and d; vol6 is six times its volume, (b − a) · ((c − a) × (d − a))
unfoldable pub over_face : Vector → Vector → Vector → Vector → Tetrahedron
over_face a b c d = record {
  ab = difference b a;
  bc = difference c b;
  cd = difference d c;
  vol6 = dot (difference b a) (cross (difference c a) (difference d a));
}

-- one coordinate of Duffy's map
unfoldable pub duffy_axis : Float → Float → Float → Float → Float → Float → Float → Float
duffy_axis a ab bc cd u v t = a ⊕ u ⊗ (ab ⊕ v ⊗ (bc ⊕ t ⊗ cd))

-- Duffy's map: the point of the tetrahedron s with the apex a at u, v and t
unfoldable pub duffy : Vector → Tetrahedron → Float → Float → Float → Vector
duffy a s u v t = record {
  x = duffy_axis a.x s.ab.x s.bc.x s.cd.x u v t;
  y = duffy_axis a.y s.ab.y s.bc.y s.cd.y u v t;
  z = duffy_axis a.z s.ab.z s.bc.z s.cd.z u v t;
}

-- ---- the field of a tetrahedron: the three sums, over layers, lines and points

-- the weight that the points of a line have in common: the Jacobian and the rule's weights along u and v, multiplied from left to right
unfoldable pub line_weight : Float → Float → Float → Float → Float → Float
line_weight vol6 u v wu wv = vol6 ⊗ u ⊗ u ⊗ v ⊗ wu ⊗ wv

module _ (p a : Vector) (s : Tetrahedron) where
  -- adds the point of the line at u and v that is node k along t; w is the line's weight
  abbrev pub tetrahedron_point : Float → Float → Float → ℕ → Newtonian → Newtonian
  tetrahedron_point u v w k = add_point (w ⊗ mapped_weight k) (difference (duffy a s u v (mapped_node k)) p)

  -- adds the line of points at u that is node j along v
  abbrev pub tetrahedron_line : Float → Float → ℕ → Newtonian → Newtonian
  tetrahedron_line u wu j = Fold points (tetrahedron_point u (mapped_node j) (line_weight s.vol6 u (mapped_node j) wu (mapped_weight j)))

  -- adds the layer of lines that is node i along u
  abbrev pub tetrahedron_layer : ℕ → Newtonian → Newtonian
  tetrahedron_layer i = Fold points (tetrahedron_line (mapped_node i) (mapped_weight i))

unfoldable pub tetrahedron_field : Vector → Vector → Tetrahedron → Newtonian
tetrahedron_field p a s = Fold points (tetrahedron_layer p a s) zero_field

-- ---- the faces

-- the sums with the tetrahedron over face k
unfoldable pub add_tetrahedron : Vector → Vector → List Float → List ℕ → ℕ → List Pair → List Pair
add_tetrahedron p a v f k sums = add_terms sums (field_numbers (tetrahedron_field p a (over_face a (corner v f k 0) (corner v f k 1) (corner v f k 2))))

unfoldable pub tetrahedra : Vector → Vector → List Float → List ℕ → Newtonian
tetrahedra p a v f = totals (Fold (face_count f) (add_tetrahedron p a v f) no_sums)
