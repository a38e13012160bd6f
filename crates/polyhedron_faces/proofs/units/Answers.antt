-- `polyhedron_faces::units` meets its contract. Assumes nothing.
use Rattle.std.proofs.Common.{ap, ◌∙◌, arith}
use Rattle.newtonian.specs.Vectors.{over}
use Rattle.newtonian.specs.declared.Vector.{Vector}
use Rattle.lanes.specs.Lanes.{lane}
use Rattle.polyhedron_faces.proofs.FillingVectors.{kept-vector, one-vector}
use Rattle.polyhedron_faces.proofs.units.Goals as goal

pub loop-k-preserved : goal.loop-k-preserved
loop-k-preserved g c =
    let f = c.loop-k.invariant.done in
    let k = c.loop-k.k in
    let e = c.set.ensures in record {
      done = rw e.written (one-vector f c.loop-k-test.true (rw e.written at e.whole) (c.over-u.ensures ∙ ap (λ (v : Vector). over v (lane c.args.l.now k)) (c.at.ensures ∙ kept-vector f c.loop-k.invariant.whole k (omega arith))));
      whole = e.whole;
    }
