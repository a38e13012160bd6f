-- `polyhedron_on_edge::Edges::add_infinite` meets its contract: what is held is a block with its keys and its count. Assumes nothing.
use Rattle.polyhedron_on_edge.proofs.Adding.{held_in}
use Rattle.polyhedron_on_edge.proofs.Edges.add_infinite.Goals as goal

pub returns : goal.returns
returns c = λ es h. c.add_infinite.ensures es c.args.self.now.keys (held_in es c.args.self.now h)
