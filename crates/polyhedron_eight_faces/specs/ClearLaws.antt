-- Faces whose sides' logarithms are finite. Assumes nothing. States:
-- `clear_adds`: such a face adds `add_whole` to the field of the sums, and no edge;
-- `clear_fold`: so do n such faces.
use Rattle.std.specs.Prelude.{◌≡◌, refl, ℕ, zero, suc, ◌<◌}
use Rattle.std.proofs.Common.{ap, ◌∙◌, arith}
use Rattle.newtonian.specs.Fold.{Fold}
use Rattle.newtonian.specs.declared.Vector.{Vector}
use Rattle.polyhedron_edge_face_sums.specs.declared.Triangle.{Triangle}
use Rattle.polyhedron_edge_face_sums.specs.EdgeFaceSums.{Sums, add_side, add_triangle}
use Rattle.polyhedron_eight_faces.specs.EightFaces.{add_whole, Clear}

pub clear_adds : (p : Vector) (t : Triangle) (s : Sums) → Clear p t → add_triangle p t s ≡ record { field = add_whole p t s.field; edges = s.edges }
unfolding add_triangle add_side add_whole
clear_adds p t s h = rw (h.on_ab, h.on_bc, h.on_ca)

pub clear_fold : (p : Vector) (t : ℕ → Triangle) (n : ℕ) (s : Sums) → ((k : ℕ) → k < n → Clear p (t k))
    → Fold n (λ k. add_triangle p (t k)) s ≡ record { field = Fold n (λ k. add_whole p (t k)) s.field; edges = s.edges }
unfolding Fold
clear_fold p t zero s c = refl
clear_fold p t (suc n) s c =
    let f = Fold n (λ k. add_whole p (t k)) s.field in
    ap (add_triangle p (t n)) (clear_fold p t n s (λ k h. c k (omega arith))) ∙ clear_adds p (t n) (record { field = f; edges = s.edges }) (c n (omega arith))
