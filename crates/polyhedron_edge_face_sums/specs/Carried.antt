-- No part of the field's definition: how the code holds the sums s, their field and their edges. v is the vertex list and f the face list of a mesh, p the station. Definitions only.
use Rattle.std.specs.Prelude.{◌≡◌, List, ℕ, ◌+◌, Float}
use Rattle.newtonian.specs.Fold.{Fold}
use Rattle.newtonian.specs.declared.Vector.{Vector}
use Rattle.newtonian.specs.declared.Newtonian.{Newtonian}
use Rattle.polyhedron_on_edge.specs.Block.{HoldsEdgesIn}
use Rattle.polyhedron_on_edge.specs.Held.{HoldsEdges}
use Rattle.polyhedron_edge_face_sums.specs.declared.Running.{Running}
use Rattle.polyhedron_edge_face_sums.specs.EdgeFaceSums.{Sums, triangle_of, add_triangle}

pub record Carries (s : Sums) (r : Running) : Type 0 where
  pub field : r.field ≡ s.field
  pub edges : HoldsEdges s.edges r.edges

-- the same of a field g and a block of n edges, with keys that need not lie with them
pub record CarriesIn (s : Sums) (keys : List ℕ) (dyads : List Float) (g : Newtonian) (n : ℕ) : Type 0 where
  pub field : g ≡ s.field
  pub edges : HoldsEdgesIn s.edges keys dyads n

-- the sums s with the n faces from the face first on
abbrev pub with_faces : Vector → List Float → List ℕ → ℕ → ℕ → Sums → Sums
with_faces p v f first n s = Fold n (λ k. add_triangle p (triangle_of v f (first + k))) s

-- whatever sums the code holds before, it holds them with those faces after
abbrev pub Adds : Vector → List Float → List ℕ → ℕ → ℕ → Running → Running → Type 0
Adds p v f first n run₀ run = (s : Sums) → Carries s run₀ → Carries (with_faces p v f first n s) run
