-- The field of a checked mesh by its centroid and radius, and which refusals the polyhedron's answers have. Assumes nothing. States:
-- `at_from`: the field is that of `polyhedron_from` with the mesh's centroid and radius;
-- `from-refused`, `at-refused`: the field at the station of number i is refused by 11 with the station i alone;
-- `cause-refused`: the causes before the field are 1 to 8 and 12 (`InputRefusal`);
-- `polyhedron-refused`: the public call is refused by 1 to 8, by 12, or by 11 with the station 0, and by no other number.
use Rattle.std.specs.Prelude.{◌≡◌, refl, Bool, true, false, cond, ◌&&◌, List, ◌⊎◌, ℕ, ◌%◌, ◌≤◌, length, Float}
use Rattle.std.proofs.Common.{sym, ap, inl, inr, arith}
use Rattle.std.proofs.Math.Dec.{eqb, leb}
use Rattle.refusals.specs.Numbers.{number_of}
use Rattle.refusals.specs.Causes.{or_else, unless}
use Rattle.std.specs.Prelude.{Ok, Err}
use Rattle.refusals.specs.Answer.{Answer, or_answer}
use Rattle.refusals.specs.Causes.{Cause}
use Rattle.refusals.specs.declared.Refusal.{Refusal}
use Rattle.refusals.specs.declared.Refusal.TheVariants.{Malformed, TooMany, OutOfLimits, TooShort, TooManyEdges}
use Rattle.newtonian.specs.Vectors.{vector_within_limits}
use Rattle.newtonian.specs.declared.Vector.{Vector}
use Rattle.newtonian.specs.declared.Newtonian.{Newtonian}
use Rattle.mesh_orders.specs.Edges.{max_vertices, max_faces}
use Rattle.mesh_orders.specs.Order.{order_list}
use Rattle.mesh.specs.Surface.{vertex_count, face_count}
use Rattle.mesh.specs.Check.{malformed, too_many, too_short, out_of_limits, no_such_vertex, count_cause, order_cause, surface_cause}
use Rattle.mesh.proofs.CauseNumbers.{Only, NumberWithin, only_limits, only-vertex, only-order}
use Rattle.polyhedron_on_edge.specs.OnEdge.{edge_limit}
use Rattle.polyhedron_tetrahedra.specs.Tetrahedra.{tetrahedra}
use Rattle.polyhedron_edge_face_sums.specs.EdgeFaceSums.{sums_of, field_of, edge_face_sums}
use Rattle.polyhedron_centroid.specs.Centroid.{centroid, radius}
use Rattle.polyhedron.specs.Polyhedron.{is_far, polyhedron_from, polyhedron_at, station_out_of_limits, given_cause, polyhedron_cause, polyhedron}

pub at_from : (i : ℕ) (p : Vector) (v : List Float) (f : List ℕ) → polyhedron_at i p v f ≡ polyhedron_from i p (centroid v f) (radius (centroid v f) v f) v f
unfolding polyhedron_at
at_from i p v f = refl

-- ---- a checked mesh is refused by 11 with the station's number alone

of_near : (b : Bool) (x : Newtonian) (i : ℕ) (r : Refusal) → cond b (Ok x) (Err (TooManyEdges i)) ≡ Err r → r ≡ TooManyEdges i
of_near true x i r e = cc
of_near false x i r e = cc

of_far : (b : Bool) (x : Newtonian) (a : Answer Newtonian) (r s : Refusal) → (a ≡ Err r → r ≡ s) → cond b (Ok x) a ≡ Err r → r ≡ s
of_far true x a r s h e = cc
of_far false x a r s h e = h e

near-refused : (i : ℕ) (p : Vector) (v : List Float) (f : List ℕ) (r : Refusal) → edge_face_sums i p v f ≡ Err r → r ≡ TooManyEdges i
unfolding edge_face_sums
near-refused i p v f r e = of_near (leb (length (sums_of p v f).edges) edge_limit) (field_of (sums_of p v f)) i r e

pub from-refused : (i : ℕ) (p c : Vector) (s : Float) (v : List Float) (f : List ℕ) (r : Refusal) → polyhedron_from i p c s v f ≡ Err r → r ≡ TooManyEdges i
unfolding polyhedron_from
from-refused i p c s v f r e = of_far (is_far p c s) (tetrahedra p c v f) (edge_face_sums i p v f) r (TooManyEdges i) (near-refused i p v f r) e

pub at-refused : (i : ℕ) (p : Vector) (v : List Float) (f : List ℕ) (r : Refusal) → polyhedron_at i p v f ≡ Err r → r ≡ TooManyEdges i
unfolding polyhedron_at
at-refused i p v f r e = from-refused i p (centroid v f) (radius (centroid v f) v f) v f r e

-- ---- the public call is refused by 1 to 8, by 12, or by 11 with the station 0

-- r is one of the refusals 1 to 8 and 12, which come before a field is computed
abbrev pub InputRefusal : Refusal → Type 0
InputRefusal r = (number_of r ≤ 8) ⊎ (r ≡ TooShort)

-- the cause c refuses by these alone
InputCause : Cause → Type 0
InputCause c = (r : Refusal) → c ≡ Err r → InputRefusal r

input_else : (c d : Cause) → InputCause c → InputCause d → InputCause (or_else c d)
input_else (Ok _) d p q = q
input_else (Err x) d p q = p

input_unless : (t : Bool) (s : Refusal) → InputRefusal s → InputCause (unless t s)
unfolding InputCause
input_unless true s h r e = absurd (let z : ◌≡◌ {A = ℕ} 0 1 = cc in omega arith)
input_unless false s h r e = let q : s ≡ r = cc in rw (sym q) h

input_within : (lo hi : ℕ) (c : Cause) → hi ≤ 8 → Only (NumberWithin lo hi) c → InputCause c
unfolding InputCause
input_within lo hi c h o r e = inl (omega (arith, (o r e).1))

module _ (v : List Float) (f : List ℕ) where
  input_counts : (n : ℕ) → InputCause (count_cause v f n)
  unfolding count_cause malformed too_many too_short
  input_counts n =
      input_else (malformed v f) (or_else (too_many v f) (too_short f n)) (input_unless (eqb (length v % 3) 0 && eqb (length f % 3) 0) Malformed (inl (omega arith)))
      (input_else (too_many v f) (too_short f n) (input_unless (leb (vertex_count v) max_vertices && leb (face_count f) max_faces) TooMany (inl (omega arith)))
      (input_unless (leb (length f) n) TooShort (inr refl)))

  input-numbers : InputCause (out_of_limits v)
  input-numbers = input_within 3 3 (out_of_limits v) (omega arith) (only_limits v f)

  input_surface : InputCause (surface_cause v f)
  unfolding surface_cause
  input_surface =
      input_else (no_such_vertex (vertex_count v) f) (order_cause v f (order_list f)) (input_within 4 4 (no_such_vertex (vertex_count v) f) (omega arith) (only-vertex v f))
      (input_within 5 8 (order_cause v f (order_list f)) (omega arith) (only-order v f (order_list f)))

  pub cause-refused : (p : Vector) (n : ℕ) (r : Refusal) → polyhedron_cause p v f n ≡ Err r → InputRefusal r
  unfolding polyhedron_cause given_cause InputCause
  cause-refused p n =
      input_else (given_cause p v f n) (surface_cause v f)
      (input_else (count_cause v f n) (or_else (out_of_limits v) (station_out_of_limits p)) (input_counts n)
      (input_else (out_of_limits v) (station_out_of_limits p) input-numbers (input_unless (vector_within_limits p) OutOfLimits (inl (omega arith)))))
      input_surface

  polyhedron_in_order : (c : Cause) (a : Answer Newtonian) (r : Refusal) → (c ≡ Err r → InputRefusal r) → (a ≡ Err r → r ≡ TooManyEdges 0) → or_answer c a ≡ Err r → InputRefusal r ⊎ (r ≡ TooManyEdges 0)
  polyhedron_in_order (Ok _) a r h g e = inr (g e)
  polyhedron_in_order (Err x) a r h g e = let q : Err x ≡ Err r = cc in inl (h q)

  pub polyhedron-refused : (p : Vector) (n : ℕ) (r : Refusal) → polyhedron p v f n ≡ Err r → InputRefusal r ⊎ (r ≡ TooManyEdges 0)
  unfolding polyhedron
  polyhedron-refused p n r e = polyhedron_in_order (polyhedron_cause p v f n) (polyhedron_at 0 p v f) r (cause-refused p n r) (at-refused 0 p v f r) e
