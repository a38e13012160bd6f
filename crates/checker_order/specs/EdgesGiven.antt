-- What the scan of the order list asks of the function that gives it the edges. Definitions only.
use Rattle.std.specs.Prelude.{◌≡◌, List, ℕ, ◌<◌, length}
use Rattle.mesh_orders.specs.Edges.{edge}

-- a function with these predicates may be called at each edge use of the face list f, and then gives its edge
pub record GivesEdges (pre : ℕ → Type 0) (post : ℕ → ℕ → Type 0) (f : List ℕ) : Type 0 where
  pub callable : (u : ℕ) → u < length f → pre u
  pub gives : (u r : ℕ) → u < length f → post u r → r ≡ edge f u
