-- The sums of far stations. States: `first-station`, `one-station`, `all-stations`: how a loop over the stations begins, goes on and ends; `no-face`, `one-face`, `more-faces`: how
-- a loop over the faces begins and goes on, by one and by several; `same-sums`: two functions that are the same; `face-added`: the points over a face give what the
-- definition says of the face. Assumes nothing.
use mathlib.Core.Path.{◌≡◌, refl, sym, ap, ◌∙◌}
use mathlib.Core.Bool.{Bool}
use mathlib.Core.List.{List}
use mathlib.Core.Logic.{⊎_elim}
use Prim.Native.Nat.{ℕ, ◌+◌, ◌≤◌, ◌<◌}
use native.Mathlib.Nat.{not-suc-le-zero}
use native.Mathlib.Omega.{arith}
use lib.Ieee.{Float}
use lib.ListN.{length, set, length-set}
use lib.Seq.{get_or-set_same, get_or-set_other}
use Rattle.lists.proofs.Numbers.{same?}
use Rattle.newtonian.specs.Fold.{Fold, fold-none, fold_more}
use Rattle.newtonian.specs.Vectors.{field_numbers}
use Rattle.newtonian.specs.declared.Newtonian.{Newtonian}
use Rattle.newtonian.specs.declared.Vector.{Vector}
use Rattle.mesh.specs.Surface.{corner}
use Rattle.polyhedron_neumaier.specs.Neumaier.{add_terms}
use Rattle.polyhedron_neumaier.specs.declared.Pair.{Pair}
use Rattle.polyhedron_neumaier.specs.declared.Sums.{Sums}
use Rattle.polyhedron_tetrahedra.specs.Tetrahedra.{add_tetrahedron, over_face, tetrahedron_field}
use Rattle.polyhedron_tetrahedra.specs.declared.Tetrahedron.{Tetrahedron}
use Rattle.polyhedron_far_points.specs.Tetrahedral.{FirstPoints, point_count, points_field}
use Rattle.lanes.proofs.Folds.{fold-add}
use Rattle.polyhedron_far_points.proofs.Pointed.{points-field}
use Rattle.polyhedron_far_lanes.specs.EightFields.{place_at}
use Rattle.polyhedron_far.specs.Far.{no_station, sums_at, IsFar, FarSums}

-- the stations below j have had their turn
pub record Upto (near : List Bool) (g : ℕ → List Pair → List Pair) (before : List Sums) (j : ℕ) (after : List Sums) : Type 0 where
  pub size : length after ≡ 8
  pub below : (i : ℕ) → i < j → IsFar near i → sums_at after i ≡ g i (sums_at before i)
  pub rest : (i : ℕ) → j ≤ i → sums_at after i ≡ sums_at before i

abbrev pairs_of : Sums → List Pair
pairs_of s = s.pairs

module _ {near : List Bool} {g : ℕ → List Pair → List Pair} where
  pub first-station : {a : List Sums} → length a ≡ 8 → Upto near g a 0 a
  first-station e = record { size = e; below = λ i l. absurd (not-suc-le-zero l); rest = λ i l. refl }

  pub one-station : {a b : List Sums} (j : ℕ) (s : Sums) → Upto near g a j b → j < 8 → (IsFar near j → s.pairs ≡ g j (sums_at b j)) → Upto near g a (j + 1) (set b j s)
  one-station {a} {b} j s u l e = record {
    size = length-set b j s ∙ u.size;
    below = λ i m h.
        ⊎_elim
        (λ t. rw t (ap pairs_of (get_or-set_same b j s no_station (omega (arith, u.size))) ∙ e (rw t at h) ∙ ap (g j) (u.rest j (omega arith))))
        (λ t. ap pairs_of (get_or-set_other b j i s no_station t) ∙ u.below i (omega (arith, t)) h)
        (same? i j);
    rest = λ i m. ap pairs_of (get_or-set_other b j i s no_station (λ t. omega arith)) ∙ u.rest i (omega arith);
  }

  pub all-stations : {a b : List Sums} {j : ℕ} → Upto near g a j b → 8 ≤ j → FarSums near g a b
  all-stations u l = record { size = u.size; at = λ i m h. u.below i (omega arith) h }

  pub same_sums : {h : ℕ → List Pair → List Pair} {a b : List Sums} → ((i : ℕ) → i < 8 → (s : List Pair) → g i s ≡ h i s) → FarSums near g a b → FarSums near h a b
  same_sums {h} {a} e f = record { size = f.size; at = λ i l n. f.at i l n ∙ e i l (sums_at a i) }

module _ {near : List Bool} (h : ℕ → ℕ → List Pair → List Pair) where
  pub no_face : {a : List Sums} → length a ≡ 8 → FarSums near (λ i. Fold 0 (h i)) a a
  no_face {a} e = record { size = e; at = λ i l n. sym (fold-none (h i) (sums_at a i)) }

  pub one-face : {a b c : List Sums} (k : ℕ) → FarSums near (λ i. Fold k (h i)) a b → FarSums near (λ i. h i k) b c → FarSums near (λ i. Fold (k + 1) (h i)) a c
  one-face {a} k f g = record { size = g.size; at = λ i l n. g.at i l n ∙ ap (h i k) (f.at i l n) ∙ sym (fold_more k (h i) (sums_at a i)) }

  pub more-faces : {a b c : List Sums} (k n : ℕ) → FarSums near (λ i. Fold k (h i)) a b → FarSums near (λ i. Fold n (λ j. h i (k + j))) b c → FarSums near (λ i. Fold (k + n) (h i)) a c
  more-faces {a} k n f g = record { size = g.size; at = λ i l m. g.at i l m ∙ ap (Fold n (λ j. h i (k + j))) (f.at i l m) ∙ sym (fold-add k n (h i) (sums_at a i)) }

module _ {near : List Bool} (places : List Vector) (apex : Vector) (v : List Float) (f : List ℕ) (k : ℕ) {b c d : Vector} {s : Tetrahedron} {x y z w : List Float} where
  pub face_added : b ≡ corner v f k 0 → c ≡ corner v f k 1 → d ≡ corner v f k 2 → s ≡ over_face apex b c d → FirstPoints apex s point_count x y z w → {before after : List Sums}
      → FarSums near (λ i q. add_terms q (field_numbers (points_field (place_at places i) x y z w))) before after
      → FarSums near (λ i. add_tetrahedron (place_at places i) apex v f k) before after
  unfolding add_tetrahedron
  face_added eb ec ed es fp {before} r =
      let e : s ≡ over_face apex (corner v f k 0) (corner v f k 1) (corner v f k 2) = rw (← eb, ← ec, ← ed) es in
      record {
        size = r.size;
        at = λ i l n.
            r.at i l n
            ∙ ap (λ (q : Newtonian). add_terms (sums_at before i) (field_numbers q)) (points-field (place_at places i) apex s fp ∙ ap (tetrahedron_field (place_at places i) apex) e);
      }
