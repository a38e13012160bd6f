-- The lists that describe eight faces, with what a station sees of them, add what the faces add. States: `side_dyad`: the dyad of side i; `all_clear`: the sides' logarithms are
-- finite; `face-is`: what face k adds. Assumes nothing.
use mathlib.Core.Path.{◌≡◌, sym, ap, ◌∙◌}
use Prim.Native.Nat.{ℕ, ◌+◌, ◌-◌, ◌%◌, ◌<◌}
use native.Mathlib.Omega.{arith}
use lib.Ieee.{Float}
use lib.Ieee.Scale.{finite}
use Rattle.newtonian.specs.Vectors.{dot}
use Rattle.newtonian.specs.declared.Vector.{Vector}
use Rattle.newtonian.specs.declared.Newtonian.{Newtonian}
use Rattle.lanes.specs.Lanes.{lane}
use Rattle.polyhedron_edge_terms.specs.Corners.{seen}
use Rattle.polyhedron_edge_terms.specs.EdgeTerms.{logarithm, dyad, add_face_terms, add_edge_terms}
use Rattle.polyhedron_edge_terms.specs.SolidAngle.{solid_angle}
use Rattle.polyhedron_edge_terms.specs.declared.Corner.{Corner}
use Rattle.polyhedron_edge_face_sums.specs.declared.Triangle.{Triangle}
use Rattle.polyhedron_faces.specs.Faces.{vector_at, matrix_at}
use Rattle.polyhedron_faces.specs.Held.{HoldsFaces, HoldsDyads}
use Rattle.polyhedron_faces.specs.declared.Group.{Group}
use Rattle.polyhedron_logarithms.specs.Sides.{next}
use Rattle.polyhedron_logarithms.proofs.Terms.{next_low, next-high}
use Rattle.polyhedron_sight.specs.Sight.{seen_at}
use Rattle.polyhedron_sight.specs.Seen.{Sees}
use Rattle.polyhedron_sight.specs.declared.SeenFaces.{SeenFaces}
use Rattle.polyhedron_eight_faces.specs.EightFaces.{add_whole, Clear, add_side_at, add_face_at}
use Rattle.polyhedron_eight_faces.specs.Held.{add_face_of}

-- side i of face k, whose normal is n
pub side_dyad_lem : (g : Group) → HoldsDyads g
    → (i k : ℕ) → i < 24 → i % 8 ≡ k → {n : Vector} → let m = g.side_normals in n ≡ vector_at g.normals.x g.normals.y g.normals.z k → matrix_at g.side_dyads i ≡ dyad n (vector_at m.x m.y m.z i)
side_dyad_lem g d i k h q e = d.of_side i h ∙ rw (q, e)

whole_parts : {n m₀ m₁ m₂ r₀ r₁ r₂ n' m₀' m₁' m₂' r₀' r₁' r₂' : Vector} {ω l₀ l₁ l₂ ω' l₀' l₁' l₂' : Float} (f : Newtonian)
    → n ≡ n' → r₀ ≡ r₀' → r₁ ≡ r₁' → r₂ ≡ r₂' → m₀ ≡ m₀' → m₁ ≡ m₁' → m₂ ≡ m₂' → ω ≡ ω' → l₀ ≡ l₀' → l₁ ≡ l₁' → l₂ ≡ l₂'
    → ◌≡◌ {A = Newtonian} (add_edge_terms n m₂ l₂ r₂ (add_edge_terms n m₁ l₁ r₁ (add_edge_terms n m₀ l₀ r₀ (add_face_terms n (dot n r₀) ω f))))
    (add_edge_terms n' m₂' l₂' r₂' (add_edge_terms n' m₁' l₁' r₁' (add_edge_terms n' m₀' l₀' r₀' (add_face_terms n' (dot n' r₀') ω' f))))
whole_parts f en e₀ e₁ e₂ u₀ u₁ u₂ eω v₀ v₁ v₂ = rw (en, e₀, e₁, e₂, u₀, u₁, u₂, eω, v₀, v₁, v₂)

log-same : {a b a' b' : Corner} {u u' : Float} → a ≡ a' → b ≡ b' → u ≡ u' → logarithm a b u ≡ logarithm a' b' u'
log-same p q r = rw (p, q, r)

-- where the next corner of each of a face's corners stands
next_a : (k : ℕ) → k < 8 → next k ≡ 8 + k
next_a k h = next_low k (omega arith) ∙ (let q : k + 8 ≡ 8 + k = omega arith in q)

next_b : (k : ℕ) → k < 8 → next (8 + k) ≡ 16 + k
next_b k h = next_low (8 + k) (omega arith) ∙ (let q : 8 + k + 8 ≡ 16 + k = omega arith in q)

next_c : (k : ℕ) → k < 8 → next (16 + k) ≡ k
next_c k h = next-high (16 + k) (omega arith) ∙ (let q : 16 + k - 16 ≡ k = omega arith in q)

module _ (p : Vector) (t : ℕ → Triangle) (g : Group) (v : SeenFaces) (d : HoldsFaces t g) (s : Sees p g.corners g.lengths v) where
  abbrev c : ℕ → Corner
  c = seen_at p g.corners.x g.corners.y g.corners.z

  a_is : (k : ℕ) → k < 8 → c k ≡ seen p (t k).a
  a_is k h = ap (seen p) (d.at_a k h)

  b_is : (k : ℕ) → k < 8 → c (8 + k) ≡ seen p (t k).b
  b_is k h = ap (seen p) (d.at_b k h)

  c_is : (k : ℕ) → k < 8 → c (16 + k) ≡ seen p (t k).c
  c_is k h = ap (seen p) (d.at_c k h)

  log_ab : (k : ℕ) → k < 8 → lane v.logarithms k ≡ logarithm (seen p (t k).a) (seen p (t k).b) (t k).ab.length
  log_ab k h = s.log k (omega arith) ∙ log-same (a_is k h) (ap c (next_a k h) ∙ b_is k h) (d.on_ab k h).1

  log_bc : (k : ℕ) → k < 8 → lane v.logarithms (8 + k) ≡ logarithm (seen p (t k).b) (seen p (t k).c) (t k).bc.length
  log_bc k h = s.log (8 + k) (omega arith) ∙ log-same (b_is k h) (ap c (next_b k h) ∙ c_is k h) (d.on_bc k h).1

  log_ca : (k : ℕ) → k < 8 → lane v.logarithms (16 + k) ≡ logarithm (seen p (t k).c) (seen p (t k).a) (t k).ca.length
  log_ca k h = s.log (16 + k) (omega arith) ∙ log-same (c_is k h) (ap c (next_c k h) ∙ a_is k h) (d.on_ca k h).1

  angle-is : (k : ℕ) → k < 8 → lane v.angles k ≡ solid_angle (t k).normal (seen p (t k).a) (seen p (t k).b) (seen p (t k).c)
  angle-is k h = s.angle (t k).normal k h ∙ rw (a_is k h, b_is k h, c_is k h)

  pub all_clear : (k : ℕ) → k < 8 → Clear p (t k)
  all_clear k h = record {
    on_ab = ap finite (sym (log_ab k h)) ∙ s.log_finite k (omega arith);
    on_bc = ap finite (sym (log_bc k h)) ∙ s.log_finite (8 + k) (omega arith);
    on_ca = ap finite (sym (log_ca k h)) ∙ s.log_finite (16 + k) (omega arith);
  }

  r_is : (k : ℕ) → k < 24 → {q : Corner} → c k ≡ q → vector_at v.corners.offsets.x v.corners.offsets.y v.corners.offsets.z k ≡ q.r
  r_is k h e = s.offset k h ∙ ap (λ (i : Corner). i.r) e

  pub face-is : (k : ℕ) → k < 8 → (f : Newtonian) → add_face_of g v k f ≡ add_whole p (t k) f
  unfolding add_side_at add_face_at add_whole
  face-is k h f =
      whole_parts f (d.normal k h) (r_is k (omega arith) (a_is k h)) (r_is (8 + k) (omega arith) (b_is k h)) (r_is (16 + k) (omega arith) (c_is k h))
      (d.on_ab k h).0 (d.on_bc k h).0 (d.on_ca k h).0 (angle-is k h) (log_ab k h) (log_bc k h) (log_ca k h)
