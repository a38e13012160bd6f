-- Which edges the sums keep. Assumes nothing. States:
-- `edges_different`: no two of them have one key, so that `edge_limit` is a limit of different edges;
-- `kept-not_finite`, `not_finite_kept`: they are those of the sides that give a logarithm that is not finite, and no others.
use Rattle.std.specs.Prelude.{Bool, cond, List, ◌⊎◌, ◌≡◌, Float}
use Rattle.std.proofs.Math.Bool.{false, true}
use Rattle.std.proofs.Math.Logic.{inl, inr, ⊎_elim}
use Rattle.std.proofs.Common.{◌∙◌, subst, eq-or-lt_of_le, le_of_suc-le-suc}
use Rattle.std.proofs.Math.Path.{refl, sym}
use Prim.Native.Nat.{◌<◌, ◌≤◌, suc, zero, ℕ}
use native.Mathlib.Omega.{arith}
use Rattle.std.specs.Float.Ieee.Scale.{finite}
use Rattle.lists.proofs.Numbers.{same?, true≢false}
use Rattle.lists.specs.Count.{count}
use Rattle.newtonian.specs.Fold.{Fold}
use Rattle.newtonian.specs.Vectors.{dot}
use Rattle.newtonian.specs.declared.Hessian.{Hessian}
use Rattle.newtonian.specs.declared.Vector.{Vector}
use Rattle.mesh.specs.Surface.{face_count}
use Rattle.polyhedron_on_edge.specs.DifferentEdges.{Different, add_different, add-has, add_other, edge_keys}
use Rattle.polyhedron_on_edge.specs.OnEdge.{add_dyad, edge_key}
use Rattle.polyhedron_edge_terms.specs.Corners.{seen}
use Rattle.polyhedron_edge_terms.specs.EdgeTerms.{add_edge_terms, add_face_terms, dyad, logarithm}
use Rattle.polyhedron_edge_terms.specs.SolidAngle.{solid_angle}
use Rattle.polyhedron_edge_terms.specs.declared.Side.{Side}
use Rattle.polyhedron_edge_face_sums.specs.declared.Triangle.{Triangle}
use Rattle.polyhedron_edge_face_sums.specs.EdgeFaceSums.{Sums, add_side, add_triangle, no_faces, sums_of, triangle_of}

-- ---- what is stated

-- the edge with the key j is one of those that the sums keep
abbrev pub KeepsEdge : Sums → ℕ → Type 0
KeepsEdge s j = 1 ≤ count j (edge_keys s.edges)

-- the side e from a to b, seen from p, has the key j and gives a logarithm that is not finite
pub record SideNotFinite (p a b : Vector) (e : Side) (j : ℕ) : Type 0 where
  pub given : finite (logarithm (seen p a) (seen p b) e.length) ≡ false
  pub key : edge_key e.from e.to ≡ j

-- so does one of the three sides of the face t
abbrev pub FaceNotFinite : Vector → Triangle → ℕ → Type 0
FaceNotFinite p t j = SideNotFinite p t.a t.b t.ab j ⊎ (SideNotFinite p t.b t.c t.bc j ⊎ SideNotFinite p t.c t.a t.ca j)

-- and one of the first m faces, face k
pub record SomeNotFinite (p : Vector) (v : List Float) (f : List ℕ) (m j : ℕ) : Type 0 where
  pub k : ℕ
  pub face : k < m
  pub itself : FaceNotFinite p (triangle_of v f k) j

-- ---- one side more

module _ (p a b n : Vector) (e : Side) (s : Sums) where
  abbrev L : Float
  L = logarithm (seen p a) (seen p b) e.length

  abbrev k : ℕ
  k = edge_key e.from e.to

  abbrev d : Hessian
  d = dyad n e.normal

  abbrev with_side : Bool → Sums
  with_side c = cond c
      (record { field = add_edge_terms n e.normal L (seen p a).r s.field; edges = s.edges })
      (record { field = s.field; edges = add_dyad k d s.edges })

  side_different : Different s.edges → Different (add_side n e (seen p a) (seen p b) s).edges
  unfolding add_side
  side_different h = go (finite L)
    where
      go : (c : Bool) → Different (with_side c).edges
      go true = h
      go false = add_different k d s.edges h

  side_kept : (j : ℕ) → KeepsEdge (add_side n e (seen p a) (seen p b) s) j → KeepsEdge s j ⊎ SideNotFinite p a b e j
  unfolding add_side
  side_kept j h = go (finite L) refl h
    where
      go : (c : Bool) → finite L ≡ c → KeepsEdge (with_side c) j → KeepsEdge s j ⊎ SideNotFinite p a b e j
      go true q l = inl l
      go false q l = ⊎_elim (λ r. inr (record { given = q; key = sym r })) (λ m. inl (omega (arith, add_other j k d s.edges m))) (same? j k)

  kept_side : (j : ℕ) → KeepsEdge s j ⊎ SideNotFinite p a b e j → KeepsEdge (add_side n e (seen p a) (seen p b) s) j
  unfolding add_side
  kept_side j h = go (finite L) refl h
    where
      go : (c : Bool) → finite L ≡ c → KeepsEdge s j ⊎ SideNotFinite p a b e j → KeepsEdge (with_side c) j
      go true q (inl l) = l
      go true q (inr x) = absurd (true≢false (sym q ∙ x.given))
      go false q (inl l) = ⊎_elim (λ r. rw r (add-has k d s.edges)) (λ m. omega (arith, add_other j k d s.edges m)) (same? j k)
      go false q (inr x) = rw (sym x.key) (add-has k d s.edges)

-- ---- one face more

module _ (p : Vector) (t : Triangle) (s : Sums) where
  abbrev n : Vector
  n = t.normal

  -- the sums with the face's own terms, and with its first side, and with its second
  abbrev s₀ : Sums
  s₀ = record { field = add_face_terms n (dot n (seen p t.a).r) (solid_angle n (seen p t.a) (seen p t.b) (seen p t.c)) s.field; edges = s.edges }

  abbrev s₁ : Sums
  s₁ = add_side n t.ab (seen p t.a) (seen p t.b) s₀

  abbrev s₂ : Sums
  s₂ = add_side n t.bc (seen p t.b) (seen p t.c) s₁

  face_different : Different s.edges → Different (add_triangle p t s).edges
  unfolding add_triangle
  face_different h = side_different p t.c t.a n t.ca s₂ (side_different p t.b t.c n t.bc s₁ (side_different p t.a t.b n t.ab s₀ h))

  face-kept : (j : ℕ) → KeepsEdge (add_triangle p t s) j → KeepsEdge s j ⊎ FaceNotFinite p t j
  unfolding add_triangle
  face-kept j h =
      ⊎_elim
      (λ h₂. ⊎_elim
      (λ h₁. ⊎_elim (λ h₀. inl h₀) (λ x. inr (inl x)) (side_kept p t.a t.b n t.ab s₀ j h₁))
      (λ x. inr (inr (inl x))) (side_kept p t.b t.c n t.bc s₁ j h₂))
      (λ x. inr (inr (inr x))) (side_kept p t.c t.a n t.ca s₂ j h)

  kept-face : (j : ℕ) → KeepsEdge s j ⊎ FaceNotFinite p t j → KeepsEdge (add_triangle p t s) j
  unfolding add_triangle
  kept-face j h = kept_side p t.c t.a n t.ca s₂ j (go h)
    where
      second : KeepsEdge s j ⊎ SideNotFinite p t.a t.b t.ab j → KeepsEdge s₂ j
      second x = kept_side p t.b t.c n t.bc s₁ j (inl (kept_side p t.a t.b n t.ab s₀ j x))

      go : KeepsEdge s j ⊎ FaceNotFinite p t j → KeepsEdge s₂ j ⊎ SideNotFinite p t.c t.a t.ca j
      go (inl x) = inl (second (inl x))
      go (inr (inl x)) = inl (second (inr x))
      go (inr (inr (inl x))) = inl (kept_side p t.b t.c n t.bc s₁ j (inr x))
      go (inr (inr (inr x))) = inr x

-- ---- all faces

module _ (p : Vector) (v : List Float) (f : List ℕ) where
  -- the sums of the first m faces
  abbrev sums_to : ℕ → Sums
  sums_to m = Fold m (λ i. add_triangle p (triangle_of v f i)) no_faces

  to_different : (m : ℕ) → Different (sums_to m).edges
  unfolding Fold
  to_different zero = λ i. omega arith
  to_different (suc m) = face_different p (triangle_of v f m) (sums_to m) (to_different m)

  pub edges_different : Different (sums_of p v f).edges
  unfolding sums_of
  edges_different = to_different (face_count f)

  to-kept : (m j : ℕ) → KeepsEdge (sums_to m) j → SomeNotFinite p v f m j
  unfolding Fold
  to-kept zero j h = absurd (omega arith)
  to-kept (suc m) j h =
      ⊎_elim (λ l. let r = to-kept m j l in record { k = r.k; face = omega (arith, r.face); itself = r.itself }) (λ x. record { k = m; face = omega arith; itself = x })
      (face-kept p (triangle_of v f m) (sums_to m) j h)

  kept-to : (m j i : ℕ) → i < m → FaceNotFinite p (triangle_of v f i) j → KeepsEdge (sums_to m) j
  unfolding Fold
  kept-to zero j i l x = absurd (omega arith)
  kept-to (suc m) j i l x =
      kept-face p (triangle_of v f m) (sums_to m) j
      (⊎_elim (λ q. inr (subst (λ (r : ℕ). FaceNotFinite p (triangle_of v f r) j) q x)) (λ r. inl (kept-to m j i r x)) (eq-or-lt_of_le (le_of_suc-le-suc l)))

  pub kept-not_finite : (j : ℕ) → KeepsEdge (sums_of p v f) j → SomeNotFinite p v f (face_count f) j
  unfolding sums_of
  kept-not_finite j h = to-kept (face_count f) j h

  pub not_finite_kept : (j : ℕ) → SomeNotFinite p v f (face_count f) j → KeepsEdge (sums_of p v f) j
  unfolding sums_of
  not_finite_kept j h = kept-to (face_count f) j h.k h.face h.itself
