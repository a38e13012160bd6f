-- `polyhedron_faces::sides` meets its contract. Assumes nothing.
use Rattle.polyhedron_faces.proofs.SidesMade.{sides_made}
use Rattle.polyhedron_faces.proofs.sides.Goals as goal

pub returns : goal.returns
returns c = let whole = sides_made {corners = c.args.corners.now} c.raw_sides.ensures c.roots.ensures c.roots-2.ensures c.units.ensures in record { vectors = whole.0; lanes = whole.1 }
