-- `polyhedron_sight::sight` meets its contract. Assumes nothing.
use Rattle.polyhedron_sight.proofs.Seeing.{sighted}
use Rattle.polyhedron_sight.proofs.sight.Goals as goal

pub returns-in-Some-Some : goal.returns-in-Some-Some
returns-in-Some-Some c =
    λ e.
    let w = rw c.in-Some-Some.is-0 at c.logarithms_24-lines.ensures in
    let a = rw c.in-Some-Some.is-1 at c.angles_8.ensures in
    sighted _ _ c.seen_24.ensures _ w.0 w.1 a
