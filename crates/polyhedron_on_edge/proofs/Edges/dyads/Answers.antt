-- `polyhedron_on_edge::Edges::dyads` meets its contract. Assumes nothing.
use Rattle.std.proofs.Common.{arith}
use Rattle.polyhedron_on_edge.proofs.Storing.{dyad-chunk}
use Rattle.polyhedron_on_edge.proofs.Edges.dyads.Goals as goal

pub returns : goal.returns
returns c = (omega arith, λ i h. rw c.as_chunks.ensures.front (dyad-chunk _ c.args.self.now.dyads i (omega (arith, h))))
