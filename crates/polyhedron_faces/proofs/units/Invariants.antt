-- `polyhedron_faces::units` meets its contract. Assumes nothing.
use Rattle.std.specs.Prelude.{ℕ}
use Rattle.newtonian.specs.Vectors.{over}
use Rattle.lanes.specs.Lanes.{lane}
use Rattle.polyhedron_faces.specs.Faces.{vector_at}
use Rattle.polyhedron_faces.specs.Held.{HasLanes}
use Rattle.polyhedron_faces.proofs.FillingVectors.{FilledVectors}
use Rattle.polyhedron_faces.proofs.units.Given as goal

abbrev pub invariant-loop-k : goal.invariant-loop-k
invariant-loop-k g l =
    let v = l.initial.v in record {
      done : FilledVectors g.row.N (λ (j : ℕ). over (vector_at v.x v.y v.z j) (lane l.l j)) v l.k l.v;
      whole : HasLanes g.row.N l.v;
    }
