-- No part of the field's definition: which edges the code holds. Its count stands one past the limit where there are too many. The contracts of the inner functions speak of it.
-- Definitions only.
use Rattle.std.specs.Prelude.{◌≡◌, List, ℕ, ◌≤◌, ◌<◌, length, get_or}
use Rattle.polyhedron_on_edge.specs.OnEdge.{edge_limit, Edge}
use Rattle.polyhedron_on_edge.specs.Block.{dyad_in, no_edge}
use Rattle.polyhedron_on_edge.specs.declared.Edges.{Edges}

-- edge i of those held
abbrev pub edge_in : Edges → ℕ → Edge
edge_in held i = record { key = get_or held.keys i 0; dyad = dyad_in held.dyads i }

-- the edges es are held, if these are not too many
pub record HoldsEdges (es : List Edge) (held : Edges) : Type 0 where
  pub many : edge_limit < length es → edge_limit < held.count
  pub few : length es ≤ edge_limit → held.count ≡ length es
  pub entries : length es ≤ edge_limit → (i : ℕ) → i < length es → edge_in held i ≡ get_or es i no_edge
