-- `mesh_orders::edges::reverse` meets its contract. Assumes nothing.
use native.Mathlib.Omega.{arith}
use Rattle.mesh_orders.specs.Edges.{reverse}
use Rattle.mesh_orders.proofs.edges.reverse.Goals as goal

pub returns : goal.returns
unfolding reverse
returns c = omega (arith, c.number.ensures, c.start.ensures, c.end.ensures)
