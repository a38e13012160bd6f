-- The mates, a term of document 01: for each edge use, the use that is its reverse. Definitions only.
use Rattle.std.specs.Prelude.{List, map, ℕ, length, eqb}
use Rattle.lists.specs.Sort.{range}
use Rattle.lists.specs.First.{first}
use Rattle.mesh_orders.specs.Edges.{edge, reverse}

-- the first use whose edge is the reverse of use u's, or 3F where there is none
unfoldable pub mate : List ℕ → ℕ → ℕ
mate f u = first (λ w. eqb (edge f w) (reverse f u)) 0 (length f)

unfoldable pub mates : List ℕ → List ℕ
mates f = map (mate f) (range 0 (length f))
