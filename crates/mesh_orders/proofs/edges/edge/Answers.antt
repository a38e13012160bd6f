-- `mesh_orders::edges::edge` meets its contract. Assumes nothing.
use native.Mathlib.Omega.{arith}
use Rattle.mesh_orders.specs.Edges.{edge}
use Rattle.mesh_orders.proofs.edges.edge.Goals as goal

pub returns : goal.returns
unfolding edge
returns c = omega (arith, c.number.ensures, c.end.ensures, c.start.ensures)
