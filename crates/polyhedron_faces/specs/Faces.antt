-- Eight faces side by side: corner or side j of the face in lane k stands at 8 j + k. Definitions only.
use Rattle.std.specs.Prelude.{◌≡◌, List, ℕ, ◌+◌, ◌%◌, ◌<◌, Float, slice_index_or}
use Rattle.std.specs.Float.{nan}
use Rattle.newtonian.specs.declared.Vector.{Vector}
use Rattle.newtonian.specs.declared.Hessian.{Hessian}
use Rattle.polyhedron_edge_terms.specs.EdgeTerms.{dyad}
use Rattle.polyhedron_edge_face_sums.specs.declared.Triangle.{Triangle}
use Rattle.lanes.specs.Lanes.{lane}

abbrev pub vector_at : List Float → List Float → List Float → ℕ → Vector
vector_at x y z k = record { x = lane x k; y = lane y k; z = lane z k }

-- matrix k of a list; past the end there is none
abbrev pub no_matrix : Hessian
no_matrix = let o : Vector = record { x = nan; y = nan; z = nan } in record { x = o; y = o; z = o }

abbrev pub matrix_at : List Hessian → ℕ → Hessian
matrix_at w k = slice_index_or w k no_matrix

-- the lanes hold the faces t 0, t 1, .., t 7: their corners, their unit normals, their sides' unit normals and lengths
pub record Describes (t : ℕ → Triangle) (cx cy cz nx ny nz mx my mz e : List Float) : Type 0 where
  pub at_a : (k : ℕ) → k < 8 → vector_at cx cy cz k ≡ (t k).a
  pub at_b : (k : ℕ) → k < 8 → vector_at cx cy cz (8 + k) ≡ (t k).b
  pub at_c : (k : ℕ) → k < 8 → vector_at cx cy cz (16 + k) ≡ (t k).c
  pub normal : (k : ℕ) → k < 8 → vector_at nx ny nz k ≡ (t k).normal
  pub on_ab : (k : ℕ) → k < 8 → (vector_at mx my mz k ≡ (t k).ab.normal) × (lane e k ≡ (t k).ab.length)
  pub on_bc : (k : ℕ) → k < 8 → (vector_at mx my mz (8 + k) ≡ (t k).bc.normal) × (lane e (8 + k) ≡ (t k).bc.length)
  pub on_ca : (k : ℕ) → k < 8 → (vector_at mx my mz (16 + k) ≡ (t k).ca.normal) × (lane e (16 + k) ≡ (t k).ca.length)

-- of unit normals in arrays: n nᵀ of the face in lane k, and n mᵀ of side i
abbrev pub face_dyad : List Float → List Float → List Float → ℕ → Hessian
face_dyad nx ny nz k = dyad (vector_at nx ny nz k) (vector_at nx ny nz k)

abbrev pub side_dyad : List Float → List Float → List Float → List Float → List Float → List Float → ℕ → Hessian
side_dyad nx ny nz mx my mz i = dyad (vector_at nx ny nz (i % 8)) (vector_at mx my mz i)

-- ds holds the dyads of the sides, df those of the faces
pub record Dyads (nx ny nz mx my mz : List Float) (ds df : List Hessian) : Type 0 where
  pub of_side : (i : ℕ) → i < 24 → matrix_at ds i ≡ side_dyad nx ny nz mx my mz i
  pub of_face : (k : ℕ) → k < 8 → matrix_at df k ≡ face_dyad nx ny nz k
