-- What is computed of eight faces side by side is what `triangle_of` says of them. States: `describes`. Assumes nothing.
use mathlib.Core.Path.{◌≡◌, sym, ap, ap₂, ◌∙◌}
use mathlib.Core.List.{List}
use Prim.Native.Nat.{ℕ, ◌+◌, ◌/◌, ◌%◌, ◌<◌}
use native.Mathlib.Omega.{arith}
use lib.Ieee.{Float}
use Rattle.newtonian.specs.Vectors.{cross, difference, norm}
use Rattle.newtonian.specs.declared.Vector.{Vector}
use Rattle.mesh.specs.Surface.{corner, face_count, normal}
use Rattle.polyhedron_edge_terms.specs.Corners.{side_of, unit}
use Rattle.polyhedron_edge_face_sums.specs.EdgeFaceSums.{triangle_of}
use Rattle.polyhedron_edge_face_sums.specs.declared.Triangle.{Triangle}
use Rattle.lanes.specs.Lanes.{lane, Lanes}
use Rattle.polyhedron_faces.specs.Faces.{Describes, vector_at}
use Rattle.polyhedron_faces.specs.Parts.{edge_at, raw_side}
use Rattle.polyhedron_faces.specs.Held.{Holds}
use Rattle.polyhedron_faces.specs.declared.Vectors.{Vectors}
use Rattle.polyhedron_faces.proofs.SidesMade.{edge-is, side_is, vector-at}
use Rattle.polyhedron_group.specs.Group.{face_in, raw_normal}

module _ (v : List Float) (f : List ℕ) (first : ℕ) {c : Vectors 24}
    (cs : Holds 24 (λ (i : ℕ). corner v f (face_in first (face_count f) (i % 8)) (i / 8)) c) where
  abbrev T : ℕ → Triangle
  T k = triangle_of v f (face_in first (face_count f) k)

  abbrev C : ℕ → ℕ → Vector
  C k j = corner v f (face_in first (face_count f) k) j

  corner-at : (i j k : ℕ) → i < 24 → i % 8 ≡ k → i / 8 ≡ j → vector_at c.x c.y c.z i ≡ C k j
  corner-at i j k h q r = vector-at cs i h ∙ ap₂ C q r

  in_a : (k : ℕ) → k < 8 → vector_at c.x c.y c.z k ≡ (T k).a
  unfolding triangle_of
  in_a k h = corner-at k 0 k (omega arith) (omega arith) (omega arith)

  in_b : (k : ℕ) → k < 8 → vector_at c.x c.y c.z (8 + k) ≡ (T k).b
  unfolding triangle_of
  in_b k h = corner-at (8 + k) 1 k (omega arith) (omega arith) (omega arith)

  in_c : (k : ℕ) → k < 8 → vector_at c.x c.y c.z (16 + k) ≡ (T k).c
  unfolding triangle_of
  in_c k h = corner-at (16 + k) 2 k (omega arith) (omega arith) (omega arith)

  module _ {n : Vectors 8} (ns : Holds 8 (λ (k : ℕ). unit (raw_normal c.x c.y c.z k)) n) where
    normal-at : (k : ℕ) → k < 8 → vector_at n.x n.y n.z k ≡ (T k).normal
    unfolding triangle_of normal
    normal-at k h = vector-at ns k h ∙ ap unit (ap₂ cross (ap₂ difference (in_b k h) (in_a k h)) (ap₂ difference (in_c k h) (in_a k h)))

    module _ {m : Vectors 24} {e : List Float} (ms : Holds 24 (λ (i : ℕ). unit (raw_side c.x c.y c.z n.x n.y n.z i)) m) (es : Lanes 24 (λ (i : ℕ). norm (edge_at c.x c.y c.z i)) e) where
      -- the side from a at i to b at j of the face in lane k
      side_at : (i j k : ℕ) (a b : Vector) → k < 8 → i < 24 → (i + 8) % 24 ≡ j → i % 8 ≡ k → vector_at c.x c.y c.z i ≡ a → vector_at c.x c.y c.z j ≡ b
          → (vector_at m.x m.y m.z i ≡ unit (cross (difference b a) (T k).normal)) × (lane e i ≡ norm (difference b a))
      side_at i j k a b l h p q s t = (
        vector-at ms i h ∙ ap unit (sym (side_is c.x c.y c.z i j p (sym s) (sym t) n.x n.y n.z k q (sym (normal-at k l)))),
        es.at i h ∙ ap norm (sym (edge-is c.x c.y c.z i j p (sym s) (sym t))),
      )

      pub describes : Describes T c.x c.y c.z n.x n.y n.z m.x m.y m.z e
      unfolding triangle_of side_of
      describes = record {
        at_a = in_a;
        at_b = in_b;
        at_c = in_c;
        normal = normal-at;
        on_ab = λ k h. side_at k (8 + k) k (T k).a (T k).b h (omega arith) (omega arith) (omega arith) (in_a k h) (in_b k h);
        on_bc = λ k h. side_at (8 + k) (16 + k) k (T k).b (T k).c h (omega arith) (omega arith) (omega arith) (in_b k h) (in_c k h);
        on_ca = λ k h. side_at (16 + k) k k (T k).c (T k).a h (omega arith) (omega arith) (omega arith) (in_c k h) (in_a k h);
      }
