-- `polyhedron_on_edge::add_infinite` meets its contract: what the edges still to come add to the sums is what all of them add. Assumes nothing.
use Rattle.std.proofs.Common.{◌≡◌, List, ℕ, drop}
use Rattle.polyhedron_on_edge.specs.Block.{HoldsEdgesIn}
use Rattle.polyhedron_on_edge.specs.OnEdge.{Edge, add_infinite}
use Rattle.polyhedron_on_edge.proofs.add_infinite.Given as goal

abbrev pub invariant-loop-d : goal.invariant-loop-d
invariant-loop-d l = (es : List Edge) (keys : List ℕ) → HoldsEdgesIn es keys l.dyads l.count → add_infinite (drop l.d-index es) l.sums ≡ add_infinite es l.initial.sums
