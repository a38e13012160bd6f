-- A station's number shows in a refusal alone, never in the field. Assumes nothing. States:
-- `polyhedron_at-value`: the field under one number is the field under every other;
-- `polyhedron_at-too_many`: what is refused under one number is refused under every other, by 11 with that number.
use Rattle.std.specs.Prelude.{◌≡◌, refl, Bool, true, false, cond, List, ℕ, leb, length, Float}
use Rattle.std.proofs.Common.{sym, ap, ◌∙◌}
use Rattle.std.specs.Prelude.{Ok, Err}
use Rattle.refusals.specs.Answer.{Answer}
use Rattle.refusals.specs.declared.Refusal.{Refusal}
use Rattle.refusals.specs.declared.Refusal.TheVariants.{TooManyEdges}
use Rattle.newtonian.specs.declared.Vector.{Vector}
use Rattle.newtonian.specs.declared.Newtonian.{Newtonian}
use Rattle.polyhedron_on_edge.specs.OnEdge.{edge_limit}
use Rattle.polyhedron_tetrahedra.specs.Tetrahedra.{tetrahedra}
use Rattle.polyhedron_edge_face_sums.specs.EdgeFaceSums.{sums_of, field_of, edge_face_sums}
use Rattle.polyhedron_centroid.specs.Centroid.{centroid, radius}
use Rattle.polyhedron.specs.Polyhedron.{is_far, polyhedron_from, polyhedron_at}

-- an answer under the number j: the same field, or 11 with j
abbrev too_many_under : ℕ → Answer Newtonian → Answer Newtonian
too_many_under j (Ok g) = Ok g
too_many_under j (Err r) = Err (TooManyEdges j)

under_near : (t : Bool) (x : Newtonian) (i j : ℕ)
    → too_many_under j (cond t (Ok x) (Err (TooManyEdges i))) ≡ cond t (Ok x) (Err (TooManyEdges j))
under_near true x i j = refl
under_near false x i j = refl

under_far : (t : Bool) (x : Newtonian) (j : ℕ) (a b : Answer Newtonian) → too_many_under j a ≡ b
    → too_many_under j (cond t (Ok x) a) ≡ cond t (Ok x) b
under_far true x j a b e = refl
under_far false x j a b e = e

module _ (i j : ℕ) (p : Vector) (v : List Float) (f : List ℕ) where
  under_sums : too_many_under j (edge_face_sums i p v f) ≡ edge_face_sums j p v f
  unfolding edge_face_sums
  under_sums = under_near (leb (length (sums_of p v f).edges) edge_limit) (field_of (sums_of p v f)) i j

  under_number : too_many_under j (polyhedron_at i p v f) ≡ polyhedron_at j p v f
  unfolding polyhedron_at polyhedron_from
  under_number =
      let c = centroid v f in
      under_far (is_far p c (radius c v f)) (tetrahedra p c v f) j (edge_face_sums i p v f) (edge_face_sums j p v f) under_sums

  pub polyhedron_at-value : (g : Newtonian) → polyhedron_at i p v f ≡ Ok g → polyhedron_at j p v f ≡ Ok g
  polyhedron_at-value g e = sym under_number ∙ ap (too_many_under j) e

  pub polyhedron_at-too_many : (r : Refusal) → polyhedron_at i p v f ≡ Err r → polyhedron_at j p v f ≡ Err (TooManyEdges j)
  polyhedron_at-too_many r e = sym under_number ∙ ap (too_many_under j) e
