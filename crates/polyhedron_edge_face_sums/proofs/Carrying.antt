-- What a side does to the sums that are carried, and what they end in. Assumes nothing.
use mathlib.Core.List.{List}
use mathlib.Core.Logic.{⊎_elim}
use mathlib.Core.Path.{◌≡◌, refl}
use Prim.Native.Nat.{◌+◌, ◌<◌, ◌≤◌, ℕ, suc, zero}
use native.Mathlib.Omega.{arith}
use borrow.Author.Tests.{le-leb, lt-leb}
use lib.Ieee.{Float}
use lib.ListN.{length}
use Rattle.polyhedron_edge_face_sums.specs.Carried.{Carries, CarriesIn, with_faces}
use Rattle.polyhedron_edge_face_sums.specs.EdgeFaceSums.{Sums, add_triangle, edge_face_sums, field_of, sums_of, triangle_of}
use Rattle.polyhedron_edge_face_sums.specs.declared.Running.{Running}
use Rattle.polyhedron_edge_terms.specs.EdgeTerms.{symmetric}
use Rattle.lists.proofs.Numbers.{below?}
use Rattle.newtonian.specs.Fold.{Fold}
use Rattle.newtonian.specs.declared.Hessian.{Hessian}
use Rattle.newtonian.specs.declared.Newtonian.{Newtonian}
use Rattle.newtonian.specs.declared.Vector.{Vector}
use Rattle.polyhedron_on_edge.proofs.Adding.{few_in, held_in}
use Rattle.polyhedron_on_edge.specs.OnEdge.{add_infinite, edge_limit}
use Rattle.std.specs.Prelude.{Ok, Err}
use Rattle.refusals.specs.declared.Refusal.TheVariants.{TooManyEdges}

-- what a state carries, it carries as its field and the block of its edges
pub carried_in : (s : Sums) (r : Running) → Carries s r → CarriesIn s r.edges.keys r.edges.dyads r.field r.edges.count
carried_in s r c = record { field = c.field; edges = held_in s.edges r.edges c.edges }

-- the two answers
module _ (i : ℕ) (p : Vector) (v : List Float) (f : List ℕ) (keys : List ℕ) (dyads : List Float) (g : Newtonian) (n : ℕ) (c : CarriesIn (sums_of p v f) keys dyads g n) where
  pub too_many : edge_limit < n → Err (TooManyEdges i) ≡ edge_face_sums i p v f
  unfolding edge_face_sums
  too_many l =
      ⊎_elim
      (λ m. simp (lt-leb (length (sums_of p v f).edges) edge_limit m))
      (λ m. absurd (omega (arith, c.edges.few m)))
      (below? edge_limit (length (sums_of p v f).edges))

  pub not-too_many : n ≤ edge_limit → (t : Hessian) → t ≡ symmetric (add_infinite (sums_of p v f).edges g.hessian)
      → Ok (record { potential = g.potential; gradient = g.gradient; hessian = t }) ≡ edge_face_sums i p v f
  unfolding edge_face_sums field_of
  not-too_many l t q =
      let s = sums_of p v f in
      simp (le-leb (length s.edges) edge_limit (few_in s.edges keys dyads n c.edges l), q, c.field)

-- the n faces from the first on are the first n
pub from_first : (p : Vector) (v : List Float) (f : List ℕ) (n : ℕ) (s : Sums) → with_faces p v f 0 n s ≡ Fold n (λ k. add_triangle p (triangle_of v f k)) s
unfolding Fold
from_first p v f zero s = refl
from_first p v f (suc n) s = let e : 0 + n ≡ n = omega arith in rw (e, from_first p v f n s)
