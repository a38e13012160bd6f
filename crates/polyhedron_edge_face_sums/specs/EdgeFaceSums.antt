-- The field of a closed polyhedron by the edge and face sums of Werner & Scheeres (1997), with the roundings in the order of the Rust's `edge_face_sums`: face by face, each face's own
-- terms and then those of its three sides. v is the vertex list and f the face list of a mesh, p the station. Definitions only.
use Rattle.std.specs.Prelude.{cond, List, [], ℕ, ◌+◌, ◌*◌, leb, length, get_or, Float}
use Rattle.std.specs.Float.Ieee.Scale.{finite}
use Rattle.std.specs.Prelude.{Ok, Err}
use Rattle.refusals.specs.Answer.{Answer}
use Rattle.refusals.specs.declared.Refusal.TheVariants.{TooManyEdges}
use Rattle.newtonian.specs.Fold.{Fold}
use Rattle.newtonian.specs.Vectors.{dot, zero_field}
use Rattle.newtonian.specs.declared.Vector.{Vector}
use Rattle.newtonian.specs.declared.Newtonian.{Newtonian}
use Rattle.mesh.specs.Surface.{face_count, corner, normal}
use Rattle.polyhedron_on_edge.specs.OnEdge.{edge_limit, edge_key, Edge, add_dyad, add_infinite}
use Rattle.polyhedron_edge_terms.specs.Corners.{unit, side_of, seen}
use Rattle.polyhedron_edge_terms.specs.SolidAngle.{solid_angle}
use Rattle.polyhedron_edge_terms.specs.EdgeTerms.{logarithm, dyad, add_face_terms, add_edge_terms, symmetric}
use Rattle.polyhedron_edge_terms.specs.declared.Corner.{Corner}
use Rattle.polyhedron_edge_terms.specs.declared.Side.{Side}
use Rattle.polyhedron_edge_face_sums.specs.declared.Triangle.{Triangle}

-- what the faces so far add up to: the field, and the edges that gave a logarithm that is not finite, in the order in which they are met
pub record Sums : Type 0 where
  pub field : Newtonian
  pub edges : List Edge

-- the sums before the first face
abbrev pub no_faces : Sums
no_faces = record { field = zero_field; edges = [] }

-- face k: its corners, its unit normal and its sides. None of it depends on the station.
unfoldable pub triangle_of : List Float → List ℕ → ℕ → Triangle
triangle_of v f k =
    let a = corner v f k 0 in
    let b = corner v f k 1 in
    let c = corner v f k 2 in
    let i = get_or f (3 * k) 0 in
    let j = get_or f (3 * k + 1) 0 in
    let l = get_or f (3 * k + 2) 0 in
    let n = unit (normal v f k) in
    record { a = a; b = b; c = c; normal = n; ab = side_of n a b i j; bc = side_of n b c j l; ca = side_of n c a l i }

-- the sums s with the side e, from a to b, of a face with the unit normal n. Where the logarithm is not finite, the field stays, and the dyad goes to the edges.
unfoldable pub add_side : Vector → Side → Corner → Corner → Sums → Sums
add_side n e a b s =
    let L = logarithm a b e.length in
    cond (finite L)
    (record { field = add_edge_terms n e.normal L a.r s.field; edges = s.edges })
    (record { field = s.field; edges = add_dyad (edge_key e.from e.to) (dyad n e.normal) s.edges })

-- the sums s with the face t and its three sides
unfoldable pub add_triangle : Vector → Triangle → Sums → Sums
add_triangle p t s =
    let n = t.normal in
    let a = seen p t.a in
    let b = seen p t.b in
    let c = seen p t.c in
    let face : Sums = record { field = add_face_terms n (dot n a.r) (solid_angle n a b c) s.field; edges = s.edges } in
    add_side n t.ca c a (add_side n t.bc b c (add_side n t.ab a b face))

-- the sums of all faces, in order
unfoldable pub sums_of : Vector → List Float → List ℕ → Sums
sums_of p v f = Fold (face_count f) (λ k. add_triangle p (triangle_of v f k)) no_faces

-- the field that the sums s of all faces end in: with the entries that the edges make infinite, and the mean of the entries (i, j) and (j, i)
unfoldable pub field_of : Sums → Newtonian
field_of s = record {
  potential = s.field.potential;
  gradient = s.field.gradient;
  hessian = symmetric (add_infinite s.edges s.field.hessian);
}

-- the field at p, which has the number i among the stations; refused by 11 where more different edges than the limit give a logarithm that is not finite
-- (`edges_different` in SumsLaws)
unfoldable pub edge_face_sums : ℕ → Vector → List Float → List ℕ → Answer Newtonian
edge_face_sums i p v f =
    let s = sums_of p v f in
    cond (leb (length s.edges) edge_limit) (Ok (field_of s)) (Err (TooManyEdges i))
