-- `polyhedron_faces::raw_sides_8` meets its contract. Assumes nothing.
use mathlib.Core.Path.{◌≡◌, ap, ◌∙◌}
use Prim.Native.Nat.{◌+◌, ◌%◌, ◌<◌}
use native.Mathlib.Omega.{arith}
use Rattle.newtonian.specs.Vectors.{cross}
use Rattle.newtonian.specs.declared.Vector.{Vector}
use Rattle.polyhedron_faces.specs.Parts.{edge_at, raw_side, square}
use Rattle.polyhedron_faces.proofs.SidesMade.{edge-is, side_is}
use Rattle.polyhedron_faces.proofs.FillingRows.{row_goes_on, row_of_vectors}
use Rattle.polyhedron_faces.proofs.raw_sides_8.Goals as goal

pub loop-k-preserved : goal.loop-k-preserved
loop-k-preserved c =
    let s = c.args in
    let v = s.corners.now in
    let n = s.normals.now in
    let k = c.loop-k.k in
    let i = s.from + k in
    let r = c.requires.from_bound in
    let t : k < 8 = c.loop-k-test.true in
    let h : i < 24 = omega (arith, t, r.0, r.1) in
    let ej : (i + 8) % 24 ≡ s.to + k = omega (arith, t, r.0, r.1, r.2) in
    let ek : i % 8 ≡ k = omega (arith, t, r.1) in
    let e₁ : c.difference-edge.result ≡ edge_at v.x v.y v.z i =
    c.difference-edge.ensures ∙ edge-is v.x v.y v.z i (s.to + k) ej c.at-a.ensures c.at-b.ensures in
    let e₂ : c.cross-s.result ≡ raw_side v.x v.y v.z n.x n.y n.z i =
    c.cross-s.ensures ∙ ap (λ (a : Vector). cross a c.at-n.result) c.difference-edge.ensures
    ∙ side_is v.x v.y v.z i (s.to + k) ej c.at-a.ensures c.at-b.ensures n.x n.y n.z k ek c.at-n.ensures in
    let f = c.loop-k.invariant in record {
      sides = rw c.set.ensures.written (row_of_vectors s.from k f.sides h (rw c.set.ensures.written at c.set.ensures.whole) e₂);
      normals = row_goes_on s.from k f.normals h (c.dot.ensures ∙ ap square e₂);
      edges = row_goes_on s.from k f.edges h (c.dot-in-loop-k.ensures ∙ ap square e₁);
    }
