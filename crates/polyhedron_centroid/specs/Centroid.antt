-- The centroid and the radius of a polyhedron's vertices, with the roundings in the order of the Rust's `polyhedron`. Both are over the used vertices alone, those that a
-- face names, in ascending number. v is the vertex list and f the face list. Definitions only.
use Rattle.std.specs.Prelude.{◌≡◌, ℕ, ◌+◌, ◌*◌, ◌≤◌, ◌<◌, Bool, cond, List, leb, pos, Float}
use Rattle.std.specs.Float.{binary64}
use Rattle.std.specs.Float.Ieee.{of_int}
use Rattle.doubles.specs.Rounded.{◌⊕◌, ◌⊗◌}
use Rattle.doubles.specs.Constants.{0·0, -0·0}
use Rattle.doubles.specs.Magnitude.{max}
use Rattle.roots.specs.Root.{Root}
use Rattle.lists.specs.Count.{count, Below}
use Rattle.mesh_orders.specs.Edges.{max_faces}
use Rattle.newtonian.specs.Fold.{Fold}
use Rattle.newtonian.specs.Vectors.{difference, over, add_vectors}
use Rattle.newtonian.specs.declared.Vector.{Vector}
use Rattle.mesh.specs.Surface.{vertex_count, vertex}
use Rattle.polyhedron_centroid.specs.declared.Tally.{Tally}

-- a face names vertex i
unfoldable pub used : List ℕ → ℕ → Bool
used f i = leb 1 (count i f)

-- step i for each used vertex i below n, in ascending number
abbrev pub if_used : {A : Type 0} → List ℕ → (ℕ → A → A) → ℕ → A → A
if_used f step i a = cond (used f i) (step i a) a

abbrev pub over_used : {A : Type 0} → List ℕ → ℕ → (ℕ → A → A) → A → A
over_used f n step a = Fold n (if_used f step) a

-- a function with this `post` takes the step s
abbrev pub Takes : {A : Type 0} → (ℕ → A → A → Type 0) → (ℕ → A → A) → Type 0
Takes {A} post s = (i : ℕ) (a r : A) → post i a r → r ≡ s i a

-- a function with these predicates may be called at each used vertex of f in turn, from first on: where it asks for fewer steps than there are edge uses, `steps` counts them
pub record Steps {A : Type 0} (pre : ℕ → A → Type 0) (post : ℕ → A → A → Type 0) (f : List ℕ) (first : A) : Type 0 where
  pub bound : ℕ
  pub inside : Below f bound
  pub steps : A → ℕ
  pub begins : steps first ≡ 0
  pub grows : (i : ℕ) (a r : A) → post i a r → steps r ≤ steps a + 1
  pub callable : (i : ℕ) (a : A) → i < bound → steps a < 3 * max_faces → pre i a

-- ---- the centroid: the sum of the used vertices, from −0 on, over their count

unfoldable pub no_tally : Tally
no_tally = record { count = 0; sum = record { x = -0·0; y = -0·0; z = -0·0 } }

unfoldable pub add_vertex : List Float → ℕ → Tally → Tally
add_vertex v i t = record { count = t.count + 1; sum = add_vectors t.sum (vertex v i) }

unfoldable pub tally_used : List Float → List ℕ → Tally
tally_used v f = over_used f (vertex_count v) (add_vertex v) no_tally

unfoldable pub tally_mean : Tally → Vector
tally_mean t = over t.sum (of_int binary64 (pos t.count))

unfoldable pub centroid : List Float → List ℕ → Vector
centroid v f = tally_mean (tally_used v f)

-- ---- the radius: the greatest distance of a used vertex from c

unfoldable pub squared_distance : Vector → Vector → Float
squared_distance a c =
    let d = difference a c in
    -0·0 ⊕ d.x ⊗ d.x ⊕ d.y ⊗ d.y ⊕ d.z ⊗ d.z

unfoldable pub farther : Vector → List Float → ℕ → Float → Float
farther c v i m = max m (squared_distance (vertex v i) c)

unfoldable pub radius : Vector → List Float → List ℕ → Float
radius c v f = Root (over_used f (vertex_count v) (farther c v) 0·0)
