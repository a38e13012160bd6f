-- The points over a face. States: `face_added`: their field, added to the sums, gives what the definition says of the face. Assumes nothing.
use mathlib.Core.Path.{◌≡◌, ap, ◌∙◌}
use mathlib.Core.List.{List}
use Prim.Native.Nat.{ℕ}
use lib.Ieee.{Float}
use Rattle.newtonian.specs.Vectors.{field_numbers}
use Rattle.newtonian.specs.declared.Newtonian.{Newtonian}
use Rattle.newtonian.specs.declared.Vector.{Vector}
use Rattle.mesh.specs.Surface.{corner}
use Rattle.polyhedron_neumaier.specs.Neumaier.{add_terms}
use Rattle.polyhedron_neumaier.specs.declared.Pair.{Pair}
use Rattle.polyhedron_tetrahedra.specs.Tetrahedra.{add_tetrahedron, over_face, tetrahedron_field}
use Rattle.polyhedron_tetrahedra.specs.declared.Tetrahedron.{Tetrahedron}
use Rattle.polyhedron_far_points.specs.Tetrahedral.{FirstPoints, point_count, points_field}
use Rattle.polyhedron_far_points.proofs.Pointed.{points-field}

module _ (p apex : Vector) (v : List Float) (f : List ℕ) (k : ℕ) (sums : List Pair) {b c d : Vector} {s : Tetrahedron} {x y z w : List Float} where
  pub face_added : b ≡ corner v f k 0 → c ≡ corner v f k 1 → d ≡ corner v f k 2 → s ≡ over_face apex b c d → FirstPoints apex s point_count x y z w
      → {g : Newtonian} {t : List Float} {r : List Pair} → g ≡ points_field p x y z w → t ≡ field_numbers g → r ≡ add_terms sums t
      → r ≡ add_tetrahedron p apex v f k sums
  unfolding add_tetrahedron
  face_added eb ec ed es fp eg et er =
      let e : s ≡ over_face apex (corner v f k 0) (corner v f k 1) (corner v f k 2) = rw (← eb, ← ec, ← ed) es in
      er ∙ ap (add_terms sums) (et ∙ ap field_numbers (eg ∙ points-field p apex s fp ∙ ap (tetrahedron_field p apex) e))
