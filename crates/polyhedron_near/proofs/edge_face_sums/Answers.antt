-- `polyhedron_near::edge_face_sums` meets its contract: after k faces the station carries their sums. Assumes nothing.
use Rattle.std.proofs.Common.{◌≡◌, ◌+◌, List, Float, ℕ, arith}
use Rattle.newtonian.specs.Fold.{Fold}
use Rattle.mesh.specs.Surface.{face_count}
use Rattle.lanes.proofs.Folds.{fold-add}
use Rattle.polyhedron_edge_face_sums.specs.Carried.{Adds, Carries}
use Rattle.polyhedron_edge_face_sums.specs.EdgeFaceSums.{add_triangle, no_faces, sums_of, triangle_of}
use Rattle.polyhedron_edge_face_sums.specs.declared.Running.{Running}
use Rattle.newtonian.specs.declared.Vector.{Vector}
use Rattle.polyhedron_near.proofs.edge_face_sums.Goals as goal
use Rattle.polyhedron_near.proofs.edge_face_sums.Goals.{else-loop-first-test, then-loop-first-test+else-total-first-gt8}

-- the m faces from k on, after the first k
more : (p : Vector) (v : List Float) (f : List ℕ) (k m n : ℕ) (r s : Running) → k + m ≡ n → Adds p v f k m r s
    → Carries (Fold k (λ j. add_triangle p (triangle_of v f j)) no_faces) r → Carries (Fold n (λ j. add_triangle p (triangle_of v f j)) no_faces) s
more p v f k m n r s e a h = rw (← e, fold-add k m (λ j. add_triangle p (triangle_of v f j)) no_faces) (a _ h)

pub loop-first-init : goal.loop-first-init
unfolding Fold
loop-first-init c = (omega arith, c.new-run.ensures)

pub loop-first-preserved : goal.loop-first-preserved
loop-first-preserved c =
    let a = c.args in
    let v = a.mesh.verts.now in
    let f = a.mesh.faces.now in
    let l = c.loop-first in
    (omega arith, more a.p v f l.first c.min-n.result (l.first + 8) l.run c.add_faces.new.run (omega (arith, c.min-n.ensures)) c.add_faces.ensures l.invariant.1)

pub returns : goal.returns
unfolding sums_of
returns c =
    let a = c.args in
    let v = a.mesh.verts.now in
    let f = a.mesh.faces.now in
    let l = c.loop-first in
    c.near_field.ensures a.p v f
    (elim c.loop-first-test.branch [
      | else-loop-first-test w ↦
          let e : l.first ≡ face_count f = omega (arith, l.invariant.0) in
          rw (w.run-is, ← e) l.invariant.1
      | then-loop-first-test+else-total-first-gt8 w ↦
          rw w.run-is
          (more a.p v f l.first w.min-n.result (face_count f) l.run w.add_faces.new.run (omega (arith, w.min-n.ensures)) w.add_faces.ensures l.invariant.1)
    ])
