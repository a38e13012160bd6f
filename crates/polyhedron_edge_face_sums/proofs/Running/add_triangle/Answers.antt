-- `polyhedron_edge_face_sums::Running::add_triangle` meets its contract: the face goes to the field, and then come its three sides. Assumes nothing.
use Rattle.std.proofs.Common.{refl}
use Rattle.polyhedron_edge_face_sums.specs.Carried.{Carries}
use Rattle.polyhedron_edge_face_sums.specs.EdgeFaceSums.{add_triangle}
use Rattle.polyhedron_edge_terms.specs.EdgeTerms.{add_face_terms}
use Rattle.polyhedron_edge_face_sums.proofs.Running.add_triangle.Goals as goal

pub returns : goal.returns
unfolding add_triangle
returns c =
    let a = c.args in
    λ s h.
    let h₀ :
    Carries
    (record { field = add_face_terms a.t.normal c.dot-rho.result c.solid_angle-omega.result s.field; edges = s.edges })
    (record { field = c.add_face_terms-self.result; edges = a.self.now.edges })
    = record { field = simp (c.add_face_terms-self.ensures, h.field); edges = h.edges } in
    simp (← c.seen-a.ensures, ← c.seen-b.ensures, ← c.seen-c.ensures, ← c.dot-rho.ensures, ← c.solid_angle-omega.ensures)
    (c.add_side-3.ensures _ _ _ c.logarithm-l2.ensures refl (c.add_side-2.ensures _ _ _ c.logarithm-l1.ensures refl
    (c.add_side.ensures _ _ _ c.logarithm-l0.ensures refl h₀)))
