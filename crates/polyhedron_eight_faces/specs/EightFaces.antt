-- What a face adds to the field of a station where its sides' logarithms are finite, and the same from flat lists, where corner or side j of face k stands at 8 j + k. Definitions only.
use Rattle.std.specs.Prelude.{◌≡◌, true, List, ℕ, ◌+◌, Float}
use Rattle.std.specs.Float.Ieee.Scale.{finite}
use Rattle.newtonian.specs.Vectors.{dot}
use Rattle.newtonian.specs.declared.Vector.{Vector}
use Rattle.newtonian.specs.declared.Newtonian.{Newtonian}
use Rattle.lanes.specs.Lanes.{lane}
use Rattle.polyhedron_edge_terms.specs.Corners.{seen}
use Rattle.polyhedron_edge_terms.specs.EdgeTerms.{logarithm, add_face_terms, add_edge_terms}
use Rattle.polyhedron_edge_terms.specs.SolidAngle.{solid_angle}
use Rattle.polyhedron_edge_face_sums.specs.declared.Triangle.{Triangle}
use Rattle.polyhedron_faces.specs.Faces.{vector_at}

-- the field f with the face t and its three sides, seen from p
unfoldable pub add_whole : Vector → Triangle → Newtonian → Newtonian
add_whole p t f =
    let n = t.normal in
    let a = seen p t.a in
    let b = seen p t.b in
    let c = seen p t.c in
    let face = add_face_terms n (dot n a.r) (solid_angle n a b c) f in
    let ab = add_edge_terms n t.ab.normal (logarithm a b t.ab.length) a.r face in
    let bc = add_edge_terms n t.bc.normal (logarithm b c t.bc.length) b.r ab in
    add_edge_terms n t.ca.normal (logarithm c a t.ca.length) c.r bc

-- seen from p, the logarithms of the sides of t are finite
pub record Clear (p : Vector) (t : Triangle) : Type 0 where
  pub on_ab : finite (logarithm (seen p t.a) (seen p t.b) t.ab.length) ≡ true
  pub on_bc : finite (logarithm (seen p t.b) (seen p t.c) t.bc.length) ≡ true
  pub on_ca : finite (logarithm (seen p t.c) (seen p t.a) t.ca.length) ≡ true

-- from lists that hold the normals of the sides, the offsets of the corners and the logarithms of the sides
module _ (mx my mz x y z L : List Float) where
  -- the field f with side i of a face with the normal n
  unfoldable pub add_side_at : Vector → ℕ → Newtonian → Newtonian
  add_side_at n i f = add_edge_terms n (vector_at mx my mz i) (lane L i) (vector_at x y z i) f

  -- and from the faces' normals and solid angles: the field f with face k
  unfoldable pub add_face_at : List Float → List Float → List Float → List Float → ℕ → Newtonian → Newtonian
  add_face_at nx ny nz ω k f =
      let n = vector_at nx ny nz k in
      let face = add_face_terms n (dot n (vector_at x y z k)) (lane ω k) f in
      add_side_at n (16 + k) (add_side_at n (8 + k) (add_side_at n k face))
