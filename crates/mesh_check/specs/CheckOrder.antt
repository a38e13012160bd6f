-- What the functions under `check_mesh` answer. `v` is the vertex list and `f` the face list. Definitions only.
use Rattle.std.specs.Prelude.{List, ℕ, Float}
use Rattle.mesh_orders.specs.Order.{order_list}
use Rattle.refusals.specs.Answer.{Answer}
use Rattle.mesh.specs.Surface.{volume}
use Rattle.mesh.specs.Check.{order_cause, solid_of}

-- the answer of a mesh that the causes 1, 2, 12, 3 and 4 have passed: one of 5 to 8, or else the volume
abbrev pub check_order : List Float → List ℕ → Answer Float
check_order v f = solid_of (order_cause v f (order_list f)) (volume v f)
