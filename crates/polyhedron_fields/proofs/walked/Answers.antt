-- `polyhedron_fields::walked` meets its contract: after k faces each near station carries their sums, and each far one has the sums of their tetrahedra. Assumes nothing.
use mathlib.Core.Bool.{Bool, false, true}
use mathlib.Core.Path.{◌≡◌, sym, ap, ◌∙◌}
use Prim.Native.Nat.{ℕ, ◌+◌, ◌<◌}
use native.Mathlib.Omega.{arith}
use lib.Ieee.{Float}
use lib.ListN.{get_or}
use mathlib.Core.List.{List}
use Rattle.newtonian.specs.Fold.{Fold}
use Rattle.newtonian.specs.declared.Vector.{Vector}
use Rattle.mesh.specs.Surface.{face_count}
use Rattle.lanes.proofs.Folds.{fold-add}
use Rattle.polyhedron_edge_face_sums.specs.Carried.{Adds, Carries}
use Rattle.polyhedron_edge_face_sums.specs.EdgeFaceSums.{add_triangle, no_faces, sums_of, triangle_of}
use Rattle.polyhedron_edge_face_sums.specs.declared.Running.{Running}
use Rattle.polyhedron_blocks.specs.Blocks.{CarriesAt, block_size, no_vector}
use Rattle.polyhedron_neumaier.specs.Neumaier.{no_sums}
use Rattle.polyhedron_neumaier.specs.declared.Pair.{Pair}
use Rattle.polyhedron_neumaier.specs.declared.Sums.{Sums}
use Rattle.polyhedron_far.specs.Far.{sums_at}
use Rattle.polyhedron_tetrahedra.specs.Tetrahedra.{add_tetrahedron}
use Rattle.polyhedron_fields.proofs.walked.Goals as goal
use Rattle.polyhedron_fields.proofs.walked.Goals.{else-loop-k-test, then-loop-k-test+else-total-k-gt8}

-- the m faces from k on, after the first k: at a near station, and at a far one
module _ (p c : Vector) (v : List Float) (f : List ℕ) (k m n : ℕ) (e : k + m ≡ n) where
  nearer : (r s : Running) → Adds p v f k m r s
      → Carries (Fold k (λ j. add_triangle p (triangle_of v f j)) no_faces) r → Carries (Fold n (λ j. add_triangle p (triangle_of v f j)) no_faces) s
  nearer r s a h = rw (← e, fold-add k m (λ j. add_triangle p (triangle_of v f j)) no_faces) (a _ h)

  farther : (r s : List Pair) → s ≡ Fold m (λ j. add_tetrahedron p c v f (k + j)) r
      → r ≡ Fold k (add_tetrahedron p c v f) no_sums → s ≡ Fold n (add_tetrahedron p c v f) no_sums
  farther r s a h = rw (← e) (a ∙ ap (Fold m (λ j. add_tetrahedron p c v f (k + j))) h ∙ sym (fold-add k m (add_tetrahedron p c v f) no_sums))

-- all faces are added
record AllFaces (c : Vector) (v : List Float) (f : List ℕ) (places : List Vector) (near not_far : List Bool) (runs : List Running) (sums : List Sums) : Type 0 where
  on_near : (i : ℕ) → i < block_size → get_or near i false ≡ true → CarriesAt i (Fold (face_count f) (λ j. add_triangle (get_or places i no_vector) (triangle_of v f j)) no_faces) runs
  on_far : (i : ℕ) → i < block_size → get_or not_far i false ≡ false → sums_at sums i ≡ Fold (face_count f) (add_tetrahedron (get_or places i no_vector) c v f) no_sums

pub loop-k-init : goal.loop-k-init
unfolding Fold
loop-k-init c = (omega arith, λ i h m. c.no_runs-runs.ensures.carries i h, λ i h m. c.no_far_sums-sums.ensures.1 i h)

pub loop-k-preserved : goal.loop-k-preserved
loop-k-preserved c =
    let l = c.loop-k in
    let a = c.args in
    let e : l.k + c.min-m.result ≡ l.k + 8 = omega (arith, c.min-m.ensures) in (
      omega arith,
      λ i h q. nearer (get_or a.stations.now.places i no_vector) a.center.centroid a.mesh.verts.now a.mesh.faces.now l.k c.min-m.result (l.k + 8) e _ _ (c.add_near_faces.ensures i h q) (l.invariant.1 i h q),
      λ i h q. farther (get_or a.stations.now.places i no_vector) a.center.centroid a.mesh.verts.now a.mesh.faces.now l.k c.min-m.result (l.k + 8) e _ _ (c.add_far_faces.ensures.at i h q) (l.invariant.2 i h q),
    )

pub returns : goal.returns
unfolding sums_of
returns c =
    let l = c.loop-k in
    let a = c.args in
    let v = a.mesh.verts.now in
    let f = a.mesh.faces.now in
    let w : AllFaces a.center.centroid v f a.stations.now.places c.near.result c.near-2.result c.loop-k-test.runs c.loop-k-test.sums =
    elim c.loop-k-test.branch [
      | else-loop-k-test w ↦
          let e : l.k ≡ face_count f = omega (arith, l.invariant.0) in
          rw (w.runs-is, w.sums-is) (record { on_near = λ i h q. rw (← e) (l.invariant.1 i h q); on_far = λ i h q. rw (← e) (l.invariant.2 i h q) })
      | then-loop-k-test+else-total-k-gt8 w ↦
          let m = w.min-m.result in
          let e : l.k + m ≡ face_count f = omega (arith, w.min-m.ensures) in
          rw (w.runs-is, w.sums-is) (record {
            on_near = λ i h q. nearer (get_or a.stations.now.places i no_vector) a.center.centroid v f l.k m (face_count f) e _ _ (w.add_near_faces.ensures i h q) (l.invariant.1 i h q);
            on_far = λ i h q. farther (get_or a.stations.now.places i no_vector) a.center.centroid v f l.k m (face_count f) e _ _ (w.add_far_faces.ensures.at i h q) (l.invariant.2 i h q);
          })
    ] in
    c.answers.ensures a.center.centroid a.center.radius v f (record {
      nears = c.near.ensures;
      near_sums = w.on_near;
      sums_far = λ j m t. w.on_far j (omega (arith, a.stations.now.few)) (c.near-2.ensures j m ∙ sym (c.near.ensures j m) ∙ t);
    })
