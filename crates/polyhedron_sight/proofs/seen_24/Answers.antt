-- `polyhedron_sight::seen_24` meets its contract. Assumes nothing.
use mathlib.Core.Path.{ap, ◌∙◌}
use native.Mathlib.Omega.{arith}
use Rattle.roots.specs.Root.{Root}
use Rattle.newtonian.specs.Vectors.{difference, dot, norm}
use Rattle.newtonian.specs.declared.Vector.{Vector}
use Rattle.polyhedron_edge_terms.specs.Corners.{seen}
use Rattle.lanes.proofs.Filling.{one-filled, all-filled}
use Rattle.polyhedron_faces.proofs.FillingVectors.{one-vector, all-written}
use Rattle.polyhedron_sight.proofs.seen_24.Goals as goal

pub loop-k-preserved : goal.loop-k-preserved
unfolding seen
loop-k-preserved c =
    let i = c.loop-k.invariant in
    let l = c.loop-k-test.true in
    let s = c.set.ensures in
    let e = c.difference-r.ensures ∙ ap (λ (v : Vector). difference v c.args.p) c.at.ensures in
    (rw s.written (one-vector i.0 l (rw s.written at s.whole) e), one-filled i.1 l (c.dot.ensures ∙ ap (λ (v : Vector). dot v v) e))

pub returns : goal.returns
unfolding seen norm
returns c =
    let i = c.loop-k.invariant in
    let l = c.loop-k-test.false in
    let v = all-written i.0 l (omega arith) in
    let r = c.roots.ensures in
    record {
      on_x = v.on_x;
      on_y = v.on_y;
      on_z = v.on_z;
      on_l = record { size = r.size; at = λ k m. r.at k m ∙ ap Root ((all-filled i.1 l).at k m) };
    }
