-- A step towards `Laws`: the causes 5 to 8 as plain statements. States: `none-order`, `order-none`: none of them holds exactly where the mesh is `Outward`; and of each cause where
-- it does not hold, and which edge or face it names, both ways (`none_flipped` and `flipped_none`, `flipped_smallest` and `smallest_flipped`, ..). Assumes nothing.
use Rattle.std.proofs.Math.Path.{◌≡◌, refl, ap, subst, subst₂}
use Rattle.std.specs.Prelude.{Bool, List, ℕ, ◌≤◌, ◌<◌, length, leb, Float}
use Rattle.std.proofs.Math.Bool.{true, false, not}
use Rattle.std.proofs.Math.Logic.{⊎_elim}
use Rattle.std.proofs.Common.{arith}
use Rattle.std.specs.Float.Ieee.{lt}
use borrow.Author.Tests.{le-leb, lt-leb, leb-true, leb-false, not-true, not-false}
use Rattle.doubles.specs.Constants.{0·0}
use Rattle.refusals.specs.declared.Refusal.TheVariants.{Flipped, Open, Degenerate, Inverted}
use Rattle.std.specs.Prelude.{Ok, Err}
use Rattle.refusals.specs.Causes.{or_else, unless}
use Rattle.refusals.proofs.Causes.{both, stop, refuses}
use Rattle.lists.proofs.Numbers.{below?}
use Rattle.mesh_orders.specs.Edges.{from, to, occurrences, Faces}
use Rattle.mesh_orders.specs.Order.{order_list}
use Rattle.mesh.specs.Surface.{face_count, normal, is_zero, volume}
use Rattle.mesh.specs.Check.{flipped_edge, open_edge, has_normal, degenerate_face, inverted, faces_cause, order_cause}
use Rattle.mesh.specs.Accepted.{Closed}
use Rattle.mesh.specs.CauseLaws.{each_none, none_degenerate, degenerate_none, none-inverted, inverted-none}
use Rattle.mesh_laws.specs.Refused.{SmallestTwice, SmallestOpen, FirstDegenerate}
use Rattle.mesh_laws.specs.ClosedLaws.{closed_pairs, pairs_closed}
use Rattle.mesh_laws.specs.Smallest.{all_pass, pass_all, smallest, from-smallest, first_fail}

-- ---- the causes 5 and 6 of a face list within the limits

module _ (f : List ℕ) (h : Faces f) where
  -- 5: none exactly where no edge occurs twice, else the smallest
  abbrev at_most_once : ℕ → ℕ → Bool
  at_most_once a b = leb (occurrences f a b) 1

  pub none_flipped : flipped_edge f (order_list f) ≡ Ok tt → (a b : ℕ) → occurrences f a b ≤ 1
  unfolding flipped_edge
  none_flipped e a b =
      ⊎_elim (λ l. omega arith) (λ l. leb-true (occurrences f a b) 1 (all_pass f h at_most_once (λ c d. Flipped c d) e a b l)) (below? (occurrences f a b) 1)

  pub flipped_none : ((a b : ℕ) → occurrences f a b ≤ 1) → flipped_edge f (order_list f) ≡ Ok tt
  unfolding flipped_edge
  flipped_none o = pass_all f h at_most_once (λ c d. Flipped c d) (λ u l. le-leb (occurrences f (from f u) (to f u)) 1 (o (from f u) (to f u)))

  pub flipped_smallest : (a b : ℕ) → flipped_edge f (order_list f) ≡ Err (Flipped a b) → SmallestTwice f a b
  unfolding flipped_edge
  flipped_smallest a b e =
      let g = smallest f h at_most_once (λ c d. Flipped c d) (Flipped a b) e in
      let q = g.2 in
      subst₂ (SmallestTwice f) (let z : g.0 ≡ a = cc in z) (let z : g.1 ≡ b = cc in z)
      (record {
        itself = leb-false (occurrences f g.0 g.1) 1 g.3.fails;
        least = λ c d two. g.3.least c d (omega arith) (lt-leb (occurrences f c d) 1 two);
      })

  pub smallest_flipped : (a b : ℕ) → SmallestTwice f a b → flipped_edge f (order_list f) ≡ Err (Flipped a b)
  unfolding flipped_edge
  smallest_flipped a b m =
      from-smallest f h at_most_once (λ c d. Flipped c d) a b
      (record { occurs = omega (arith, m.itself); fails = lt-leb (occurrences f a b) 1 m.itself; least = λ c d o t. m.least c d (leb-false (occurrences f c d) 1 t) })

  -- 6: none exactly where the reverse of each edge occurs, else the smallest
  abbrev reversed : ℕ → ℕ → Bool
  reversed a b = leb 1 (occurrences f b a)

  pub none_open : open_edge f (order_list f) ≡ Ok tt → (a b : ℕ) → 1 ≤ occurrences f a b → 1 ≤ occurrences f b a
  unfolding open_edge
  none_open e a b o = leb-true 1 (occurrences f b a) (all_pass f h reversed (λ c d. Open c d) e a b o)

  pub open_none : ((u : ℕ) → u < length f → 1 ≤ occurrences f (to f u) (from f u)) → open_edge f (order_list f) ≡ Ok tt
  unfolding open_edge
  open_none o = pass_all f h reversed (λ c d. Open c d) (λ u l. le-leb 1 (occurrences f (to f u) (from f u)) (o u l))

  pub open_smallest : (a b : ℕ) → open_edge f (order_list f) ≡ Err (Open a b) → SmallestOpen f a b
  unfolding open_edge
  open_smallest a b e =
      let g = smallest f h reversed (λ c d. Open c d) (Open a b) e in
      let q = g.2 in
      subst₂ (SmallestOpen f) (let z : g.0 ≡ a = cc in z) (let z : g.1 ≡ b = cc in z)
      (record {
        itself = g.3.occurs;
        alone = omega (arith, leb-false 1 (occurrences f g.1 g.0) g.3.fails);
        least = λ c d o z. g.3.least c d o (lt-leb 1 (occurrences f d c) (omega arith));
      })

  pub smallest_open : (a b : ℕ) → SmallestOpen f a b → open_edge f (order_list f) ≡ Err (Open a b)
  unfolding open_edge
  smallest_open a b m =
      from-smallest f h reversed (λ c d. Open c d) a b
      (record {
        occurs = m.itself;
        fails = lt-leb 1 (occurrences f b a) (omega (arith, m.alone));
        least = λ c d o t. m.least c d o (omega (arith, leb-false 1 (occurrences f d c) t));
      })

  -- neither 5 nor 6: closed
  pub none-closed : flipped_edge f (order_list f) ≡ Ok tt → open_edge f (order_list f) ≡ Ok tt → Closed f
  none-closed p q = pairs_closed f (record { once = none_flipped p; back = none_open q })

  pub closed_none : Closed f → (flipped_edge f (order_list f) ≡ Ok tt) × (open_edge f (order_list f) ≡ Ok tt)
  closed_none c = (flipped_none (closed_pairs f c).once, open_none (λ u l. omega (arith, c.back u l)))

-- ---- the cause 7

module _ (v : List Float) (f : List ℕ) where
  pub degenerate_first : (k : ℕ) → degenerate_face v f ≡ Err (Degenerate k) → FirstDegenerate v f k
  unfolding degenerate_face
  degenerate_first k e =
      let g = first_fail (has_normal v f) (λ j. Degenerate j) (face_count f) (Degenerate k) e in
      let q = g.refusal in
      subst (FirstDegenerate v f) (let z : g.at ≡ k = cc in z)
      (record { face = g.within; itself = not-false (is_zero (normal v f g.at)) g.fails; before = λ j l. not-true (is_zero (normal v f j)) (g.before j l) })

  pub first_degenerate : (k : ℕ) → FirstDegenerate v f k → degenerate_face v f ≡ Err (Degenerate k)
  unfolding degenerate_face
  first_degenerate k d =
      stop (face_count f) k (λ j. unless (has_normal v f j) (Degenerate j)) (Degenerate k) d.face
      (each_none k (has_normal v f) (λ j. Degenerate j) (λ j l. ap not (d.before j l)))
      (refuses (has_normal v f k) (Degenerate k) (ap not d.itself))

  -- ---- the cause 8

  pub not-positive : inverted v f ≡ Err Inverted → lt 0·0 (volume v f) ≡ false
  unfolding inverted
  not-positive e = go (lt 0·0 (volume v f)) e
    where
      go : (b : Bool) → unless b Inverted ≡ Err Inverted → b ≡ false
      go true q = absurd (let z : ◌≡◌ {A = ℕ} 0 1 = cc in omega arith)
      go false q = refl

  -- ---- the causes 5 to 8 together

  -- none of them: closed, no zero normal, a volume above 0
  abbrev pub Outward : Type 0
  Outward = Closed f × ((k : ℕ) → k < face_count f → is_zero (normal v f k) ≡ false) × (lt 0·0 (volume v f) ≡ true)

  pub none-order : Faces f → order_cause v f (order_list f) ≡ Ok tt → Outward
  unfolding order_cause faces_cause
  none-order h e =
      let a = both (flipped_edge f (order_list f)) (or_else (open_edge f (order_list f)) (faces_cause v f)) e in
      let b = both (open_edge f (order_list f)) (faces_cause v f) a.1 in
      let c = both (degenerate_face v f) (inverted v f) b.1 in
      (none-closed f h a.0 b.0, none_degenerate v f c.0, none-inverted v f c.1)

  pub order-none : Faces f → Outward → order_cause v f (order_list f) ≡ Ok tt
  unfolding order_cause faces_cause
  order-none h s = let c = closed_none f h s.0 in rw (c.0, c.1, degenerate_none v f s.1, inverted-none v f s.2)
