-- Eight faces side by side, as a station sees them. Corner j of face k, and the side from there to the face's next corner, stand at 8 j + k. Definitions only.
use Rattle.std.specs.Prelude.{◌≡◌, true, List, ℕ, ◌+◌, ◌<◌, Float}
use Rattle.std.specs.Float.Ieee.Scale.{finite}
use Rattle.doubles.specs.Rounded.{◌⊕◌, ◌⊗◌}
use Rattle.newtonian.specs.Vectors.{dot, cross}
use Rattle.newtonian.specs.declared.Vector.{Vector}
use Rattle.lanes.specs.Lanes.{lane, Lanes}
use Rattle.polyhedron_edge_terms.specs.Corners.{seen}
use Rattle.polyhedron_edge_terms.specs.EdgeTerms.{logarithm}
use Rattle.polyhedron_edge_terms.specs.SolidAngle.{solid_angle}
use Rattle.polyhedron_edge_terms.specs.declared.Corner.{Corner}
use Rattle.polyhedron_faces.specs.Faces.{vector_at}
use Rattle.polyhedron_logarithms.specs.Sides.{next, corner_at}

-- ---- what p sees of the faces

-- corner k of those in cx, cy, cz, seen from p
abbrev pub seen_at : Vector → List Float → List Float → List Float → ℕ → Corner
seen_at p cx cy cz k = seen p (vector_at cx cy cz k)

-- of the faces with the corners in cx, cy, cz and the sides' lengths in e, the station p sees the offsets x, y, z of the corners, the sides' logarithms L, which are finite, and the solid
-- angles ω. The station lies in no face's plane, so that no normal n counts in `solid_angle`.
pub record Sight (p : Vector) (cx cy cz e x y z L ω : List Float) : Type 0 where
  pub offset : (k : ℕ) → k < 24 → vector_at x y z k ≡ (seen_at p cx cy cz k).r
  pub log : (k : ℕ) → k < 24 → lane L k ≡ logarithm (seen_at p cx cy cz k) (seen_at p cx cy cz (next k)) (lane e k)
  pub log_finite : (k : ℕ) → k < 24 → finite (lane L k) ≡ true
  pub angle : (n : Vector) (k : ℕ) → k < 8 → lane ω k ≡ solid_angle n (seen_at p cx cy cz k) (seen_at p cx cy cz (8 + k)) (seen_at p cx cy cz (16 + k))

-- ---- the steps

-- the lists hold the n corners c 0, c 1, ..: their offsets x, y, z and distances l
pub record Corners (n : ℕ) (c : ℕ → Corner) (x y z l : List Float) : Type 0 where
  pub on_x : Lanes n (λ (k : ℕ). (c k).r.x) x
  pub on_y : Lanes n (λ (k : ℕ). (c k).r.y) y
  pub on_z : Lanes n (λ (k : ℕ). (c k).r.z) z
  pub on_l : Lanes n (λ (k : ℕ). (c k).l) l

-- half the solid angle is atan2 of these two, off the face's plane
unfoldable pub triple : Corner → Corner → Corner → Float
triple a b c = dot a.r (cross b.r c.r)

unfoldable pub denominator : Corner → Corner → Corner → Float
denominator a b c = a.l ⊗ b.l ⊗ c.l ⊕ a.l ⊗ dot b.r c.r ⊕ b.l ⊗ dot c.r a.r ⊕ c.l ⊗ dot a.r b.r

module _ (x y z l : List Float) where
  -- of face k
  abbrev pub triple_at : ℕ → Float
  triple_at k = triple (corner_at x y z l k) (corner_at x y z l (8 + k)) (corner_at x y z l (16 + k))

  abbrev pub denominator_at : ℕ → Float
  denominator_at k = denominator (corner_at x y z l k) (corner_at x y z l (8 + k)) (corner_at x y z l (16 + k))

  abbrev pub angle_at : (ℕ → Vector) → ℕ → Float
  angle_at n k = solid_angle (n k) (corner_at x y z l k) (corner_at x y z l (8 + k)) (corner_at x y z l (16 + k))
