-- The edge uses of a mesh, a term of document 01: edge use 3k + j runs from corner j of face k to corner (j + 1) mod 3. `f` is the face list, three vertex numbers to
-- a face, so that it is as long as there are edge uses. An edge is the pair (from, to) of an edge use, its reverse the pair (to, from). Definitions only.
use Rattle.std.specs.Prelude.{◌≡◌, Bool, ◌&&◌, List, ℕ, ◌+◌, ◌*◌, ◌/◌, ◌%◌, ◌≤◌, ◌<◌, length, get_or, eqb}
use Rattle.lists.specs.Count.{tally, Below}

-- the limits of document 01: V ≤ 20,000 vertices, F ≤ 32,768 faces and S ≤ 65,536 stations
abbrev pub max_vertices : ℕ
max_vertices = 20000

abbrev pub max_faces : ℕ
max_faces = 32768

abbrev pub max_stations : ℕ
max_stations = 65536

-- the corner after corner u of the same face
abbrev pub next : ℕ → ℕ
next u = u / 3 * 3 + (u + 1) % 3

-- the vertex that edge use u leaves, and the one that it reaches
abbrev pub from : List ℕ → ℕ → ℕ
from f u = get_or f u 0

abbrev pub to : List ℕ → ℕ → ℕ
to f u = get_or f (next u) 0

-- edge use u has the edge (a, b)
abbrev pub has : List ℕ → ℕ → ℕ → ℕ → Bool
has f a b u = eqb (from f u) a && eqb (to f u) b

-- how many of the 3F edge uses have the edge (a, b)
unfoldable pub occurrences : List ℕ → ℕ → ℕ → ℕ
occurrences f a b = tally (has f a b) (length f)

-- an edge as one number, from · 2³² + to
abbrev pub 2³² : ℕ
2³² = 4294967296

abbrev pub edge_number : ℕ → ℕ → ℕ
edge_number a b = a * 2³² + b

-- the edge of use u, and its reverse
unfoldable pub edge : List ℕ → ℕ → ℕ
edge f u = edge_number (from f u) (to f u)

unfoldable pub reverse : List ℕ → ℕ → ℕ
reverse f u = edge_number (to f u) (from f u)

-- u is an edge use of the face list f
abbrev pub IsUse : List ℕ → ℕ → Type 0
IsUse f u = (length f % 3 ≡ 0) × (u < length f)

-- a face list within the limits: whole triples, not too many, of vertex numbers below the limit
pub record Faces (f : List ℕ) : Type 0 where
  pub triples : length f % 3 ≡ 0
  pub few : length f ≤ 3 * max_faces
  pub small : Below f max_vertices
