-- No part of the field's definition: nine numbers to an edge, as the code keeps the dyads of the edges that give a logarithm that is not finite, and which edges such a block holds with
-- keys and a count, which stands one past the limit where there are too many. The contracts of the inner functions speak of it. Definitions only.
use Rattle.std.specs.Prelude.{◌≡◌, List, ℕ, ◌+◌, ◌*◌, ◌≤◌, ◌<◌, length, get_or, Float}
use Rattle.std.specs.Float.{nan}
use Rattle.newtonian.specs.Vectors.{zero_field}
use Rattle.newtonian.specs.declared.Hessian.{Hessian}
use Rattle.polyhedron_on_edge.specs.OnEdge.{edge_limit, Edge}

-- matrix i of a block
unfoldable pub dyad_in : List Float → ℕ → Hessian
dyad_in ds i =
    let n = i * 9 in
    record {
      x = record { x = get_or ds n nan; y = get_or ds (n + 1) nan; z = get_or ds (n + 2) nan };
      y = record { x = get_or ds (n + 3) nan; y = get_or ds (n + 4) nan; z = get_or ds (n + 5) nan };
      z = record { x = get_or ds (n + 6) nan; y = get_or ds (n + 7) nan; z = get_or ds (n + 8) nan };
    }

-- edge i of a block, by keys that need not lie with it
abbrev pub edge_of_block : List ℕ → List Float → ℕ → Edge
edge_of_block keys dyads i = record { key = get_or keys i 0; dyad = dyad_in dyads i }

-- what a list of edges holds past its end
abbrev pub no_edge : Edge
no_edge = record { key = 0; dyad = zero_field.hessian }

-- the block holds the edges es, if these are not too many
pub record HoldsEdgesIn (es : List Edge) (keys : List ℕ) (dyads : List Float) (n : ℕ) : Type 0 where
  pub many : edge_limit < length es → edge_limit < n
  pub few : length es ≤ edge_limit → n ≡ length es
  pub entries : length es ≤ edge_limit → (i : ℕ) → i < length es → edge_of_block keys dyads i ≡ get_or es i no_edge
