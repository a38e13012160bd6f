-- The edges that give a logarithm L_e (Werner & Scheeres 1997) that is not finite, with the roundings in the order of the Rust's `edge_face_sums`. They are those on which the station
-- lies, as far as the roundings tell, and also edges so near that squares of distances underflow. The term E_e L_e of the Hessian then waits until all faces are added: the dyads of the
-- edge's two faces are summed first, E_e = n̂_A n̂_eᴬᵀ + n̂_B n̂_eᴮᵀ, which vanishes between faces in one plane. Then each entry of E_e above 10⁻¹² in magnitude makes the Hessian's entry
-- infinite, as it is physically on a real edge. Definitions only.
use Rattle.std.specs.Prelude.{cond, List, [], ◌∷◌, ℕ, eqb, ltb, Float}
use Rattle.std.specs.Float.Ieee.{lt}
use Rattle.doubles.specs.Rounded.{◌⊕◌, ◌⊗◌}
use Rattle.doubles.specs.Constants.{10⁻¹², +∞}
use Rattle.doubles.specs.Magnitude.{abs}
use Rattle.newtonian.specs.declared.Vector.{Vector}
use Rattle.newtonian.specs.declared.Hessian.{Hessian}
use Rattle.newtonian.specs.Vectors.{add_vectors}
use Rattle.mesh_orders.specs.Edges.{edge_number}

-- document 01's limit: so many different edges may give a logarithm that is not finite
abbrev pub edge_limit : ℕ
edge_limit = 64

-- an edge of either direction as one number: the smaller of its vertices, then the larger
unfoldable pub edge_key : ℕ → ℕ → ℕ
edge_key i j = cond (ltb i j) (edge_number i j) (edge_number j i)

-- an edge that gives a logarithm that is not finite, and the sum of its faces' dyads so far
pub record Edge : Type 0 where
  pub key : ℕ
  pub dyad : Hessian

-- the sum of two matrices
unfoldable pub add_matrices : Hessian → Hessian → Hessian
add_matrices a b = record { x = add_vectors a.x b.x; y = add_vectors a.y b.y; z = add_vectors a.z b.z }

-- a face's dyad d for the edge with the key k: added to the edge's sum, or kept as the sum of an edge not met before, which comes last
unfoldable pub add_dyad : ℕ → Hessian → List Edge → List Edge
add_dyad k d [] = record { key = k; dyad = d } ∷ []
add_dyad k d (e ∷ es) =
    cond (eqb e.key k) (record { key = e.key; dyad = add_matrices e.dyad d } ∷ es) (e ∷ add_dyad k d es)

-- x ∞ added to t where |x| > 10⁻¹²
unfoldable pub infinite_entry : Float → Float → Float
infinite_entry t x = cond (lt 10⁻¹² (abs x)) (t ⊕ x ⊗ +∞) t

abbrev pub infinite_row : Vector → Vector → Vector
infinite_row t e = record { x = infinite_entry t.x e.x; y = infinite_entry t.y e.y; z = infinite_entry t.z e.z }

-- the Hessian t with the entries that the matrix E of an edge makes infinite
unfoldable pub infinite_entries : Hessian → Hessian → Hessian
infinite_entries t E = record { x = infinite_row t.x E.x; y = infinite_row t.y E.y; z = infinite_row t.z E.z }

-- the Hessian t with the entries that all the edges make infinite, edge by edge
unfoldable pub add_infinite : List Edge → Hessian → Hessian
add_infinite [] t = t
add_infinite (e ∷ es) t = add_infinite es (infinite_entries t e.dyad)
