-- A pass over the order list that takes a vertex where it is past the last one taken: it takes each used vertex, in ascending number, and no other. Assumes nothing.
use mathlib.Core.Path.{◌≡◌, ap, sym, subst, ◌∙◌}
use mathlib.Core.Bool.{Bool, true, false, cond}
use mathlib.Core.List.{List}
use mathlib.Core.Logic.{⊎_elim}
use Prim.Native.Nat.{ℕ, zero, suc, ◌+◌, ◌≤◌, ◌<◌}
use native.Mathlib.Omega.{arith}
use borrow.Author.Count.{below_more}
use borrow.Author.Tests.{le-leb, lt-leb}
use lib.ListN.{length, get_or}
use Rattle.lists.specs.Count.{count, Below}
use Rattle.lists.proofs.Numbers.{same?, below?}
use Rattle.lists.proofs.Counts.{entry_counts, counts_entry}
use Rattle.mesh_orders.specs.Edges.{from, edge, Faces}
use Rattle.mesh_orders.specs.Order.{order_list}
use Rattle.mesh_orders.specs.EdgeLaws.{small-to}
use Rattle.mesh_orders.specs.OrderLaws.{order-length, order_below, place, edge-le}
use Rattle.newtonian.specs.Fold.{Fold, fold-none, fold_more}
use Rattle.polyhedron_centroid.specs.Centroid.{used, if_used}

-- the vertex that the edge use at place i of the order list leaves
abbrev pub met : List ℕ → ℕ → ℕ
met f i = from f (get_or (order_list f) i 0)

-- what the loops ask of place i of a list o that is the order list
pub placed : (f o : List ℕ) → o ≡ order_list f → (i : ℕ) → i < length o → (i < length f) × (get_or o i 0 < length f) × (from f (get_or o i 0) ≡ met f i)
placed f o e i l =
    let k : i < length f = omega (arith, ap length e, order-length f) in (
      k,
      subst (λ (x : List ℕ). get_or x i 0 < length f) (sym e) (order_below f i (omega (arith, order-length f))),
      ap (λ (x : List ℕ). from f (get_or x i 0)) e,
    )

pub met-below : (f : List ℕ) (b : ℕ) → Below f b → (i : ℕ) → i < length f → met f i < b
met-below f b h i l = h (get_or (order_list f) i 0) (order_below f i (omega (arith, order-length f)))

-- after i places the vertices below n are done, and x is what their steps have made of a
pub record Passed {A : Type 0} (f : List ℕ) (step : ℕ → A → A) (a : A) (i n : ℕ) (x : A) : Type 0 where
  pub low : (k : ℕ) → k < i → met f k < n
  pub is : x ≡ Fold n (if_used f step) a

pub begin : {A : Type 0} (f : List ℕ) (step : ℕ → A → A) (a : A) → Passed f step a 0 0 a
begin f step a = record { low = λ k h. absurd (omega arith); is = sym (fold-none (if_used f step) a) }

module _ (f : List ℕ) (faces : Faces f) where
  ascends : (i j : ℕ) → i ≤ j → j < length f → met f i ≤ met f j
  unfolding edge
  ascends i j h l =
      omega (
        arith,
        edge-le f faces i j h l,
        small-to f faces (get_or (order_list f) i 0),
        small-to f faces (get_or (order_list f) j 0),
      )

  is-used : (i : ℕ) → i < length f → used f (met f i) ≡ true
  unfolding used
  is-used i h =
      le-leb 1 (count (met f i) f) (entry_counts f (get_or (order_list f) i 0) (order_below f i (omega (arith, order-length f))))

  -- a vertex after those met before place i, and before that of place i
  not-used : (i n j : ℕ) → ((k : ℕ) → k < i → met f k < n) → n ≤ j → (i < length f → j < met f i) → used f j ≡ false
  unfolding used
  not-used i n j low nj high =
      lt-leb 1 (count j f)
      (⊎_elim (λ l. l)
      (λ m.
      let e = counts_entry j f m in
      let p = place f e.at e.within in
      let l : p.at < length f = omega (arith, p.within, order-length f) in
      let q : met f p.at ≡ j = ap (λ (u : ℕ). get_or f u 0) p.is ∙ e.is in
      absurd (⊎_elim (λ b. omega (arith, q, low p.at b)) (λ b. omega (arith, q, ascends i p.at b l, high (omega arith))) (below? p.at i)))
      (below? (count j f) 1))

  module _ {A : Type 0} (step : ℕ → A → A) (a : A) where
    -- no vertex from lo on is used
    quiet : (lo hi : ℕ) → lo ≤ hi → ((j : ℕ) → lo ≤ j → j < hi → used f j ≡ false) → Fold hi (if_used f step) a ≡ Fold lo (if_used f step) a
    unfolding Fold
    quiet lo zero h q = ap (λ (n : ℕ). Fold n (if_used f step) a) (let e : zero ≡ lo = omega arith in e)
    quiet lo (suc hi) h q =
        ⊎_elim (λ e. ap (λ (n : ℕ). Fold n (if_used f step) a) (sym e))
        (λ ne. ap (λ (b : Bool). cond b (step hi (Fold hi (if_used f step) a)) (Fold hi (if_used f step) a)) (q hi (omega arith) (omega arith))
        ∙ quiet lo hi (omega arith) (λ j l m. q j l (omega arith)))
        (same? lo (suc hi))

    module _ (i n : ℕ) (x : A) (p : Passed f step a i n x) where
      pub skipped : met f i < n → Passed f step a (i + 1) n x
      skipped h = record { low = below_more (λ k. met f k < n) i p.low h; is = p.is }

      pub taken : i < length f → n ≤ met f i → Passed f step a (i + 1) (met f i + 1) (step (met f i) x)
      taken l h =
          let m = met f i in
          let q = quiet n m h (λ j lj jh. not-used i n j p.low lj (λ _. jh)) in
          record {
            low = below_more (λ k. met f k < m + 1) i (λ k kl. omega (arith, p.low k kl)) (omega arith);
            is = ap (step m) (p.is ∙ sym q) ∙ sym (fold_more m (if_used f step) a ∙ ap (λ (t : Bool). cond t (step m (Fold m (if_used f step) a)) (Fold m (if_used f step) a)) (is-used i l));
          }

      -- all places, of v vertices
      pub finish : (v : ℕ) → length f ≤ i → n ≤ v → x ≡ Fold v (if_used f step) a
      finish v h u = p.is ∙ sym (quiet n v u (λ j l m. not-used i n j p.low l (λ z. absurd (omega arith))))
