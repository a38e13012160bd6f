-- A group whose faces are all clear. States: `carries_clear`: what is added to the field by lanes carries the sums with these faces. Assumes nothing.
use mathlib.Core.List.{List}
use mathlib.Core.Path.{◌≡◌, sym, ap, ◌∙◌}
use Prim.Native.Nat.{ℕ, ◌+◌, ◌≤◌, ◌<◌}
use native.Mathlib.Omega.{arith}
use lib.Ieee.{Float}
use Rattle.newtonian.specs.Fold.{Fold}
use Rattle.lanes.proofs.Folds.{fold_same}
use Rattle.newtonian.specs.declared.Newtonian.{Newtonian}
use Rattle.newtonian.specs.declared.Vector.{Vector}
use Rattle.mesh.specs.Surface.{face_count}
use Rattle.polyhedron_edge_face_sums.specs.Carried.{Adds, with_faces}
use Rattle.polyhedron_edge_face_sums.specs.EdgeFaceSums.{Sums, add_triangle, triangle_of}
use Rattle.polyhedron_edge_face_sums.specs.declared.Running.{Running}
use Rattle.polyhedron_edge_face_sums.specs.declared.Triangle.{Triangle}
use Rattle.polyhedron_group.proofs.Places.{within}
use Rattle.polyhedron_group.specs.Group.{face_in}
use Rattle.polyhedron_eight_faces.specs.ClearLaws.{clear_fold}
use Rattle.polyhedron_eight_faces.specs.EightFaces.{Clear, add_whole}

module _ (p : Vector) (v : List Float) (f : List ℕ) (first n : ℕ) where
  abbrev t : ℕ → Triangle
  t k = triangle_of v f (face_in first (face_count f) k)

  -- as far as there are faces, those in the lanes are those from first on
  with_lanes : first + n ≤ face_count f → (s : Sums) → with_faces p v f first n s ≡ Fold n (λ k. add_triangle p (t k)) s
  with_lanes l s = fold_same n (λ k. add_triangle p (triangle_of v f (first + k))) (λ k. add_triangle p (t k)) s
      (λ k h a. ap (λ (i : ℕ). add_triangle p (triangle_of v f i) a) (sym (within first (face_count f) k (omega arith))))

  pub carries_clear : first + n ≤ face_count f → n ≤ 8 → (run : Running) (g : Newtonian)
      → (g ≡ Fold n (λ k. add_whole p (t k)) run.field) × ((k : ℕ) → k < 8 → Clear p (t k))
      → Adds p v f first n run (record { field = g; edges = run.edges })
  carries_clear l m run g w s h =
      rw (with_lanes l s ∙ clear_fold p t n s (λ k b. w.1 k (omega arith)))
      (record { field = w.0 ∙ ap (Fold n (λ k. add_whole p (t k))) h.field; edges = h.edges })
