-- The causes 17 and 18: a list that passes 17 is the order list (`is-order`), mates that pass 18 then are the mates (`is-mates`), and the mesh is closed
-- (`is-closed`); of a closed mesh both pass (`order_passes`, `mates_pass`). Assumes nothing.
use Rattle.std.specs.Prelude.{◌≡◌, refl, Bool, false, ◌||◌, List, map, eqb, ltb, get_or}
use Rattle.std.proofs.Common.{sym, ap, ap₂, ◌∙◌, subst, ⊎_elim, eq-or-lt_of_le, le_of_suc-le-suc, not-suc-le-zero}
use Rattle.std.proofs.Math.Bool.{true}
use Prim.Native.Nat.{ℕ, zero, suc, ◌+◌, ◌-◌, ◌≤◌, ◌<◌}
use native.Mathlib.Omega.{arith}
use Rattle.std.proofs.Math.ListN.{length, length-map}
use borrow.Author.Tests.{eq-eqb, ne_eqb, eqb-true, lt-ltb, ltb-true}
use Rattle.refusals.specs.declared.Refusal.TheVariants.{WrongOrder, WrongMate}
use Rattle.std.specs.Prelude.{Ok}
use Rattle.lists.specs.Count.{Below}
use Rattle.lists.specs.Sort.{range, Ascending}
use Rattle.lists.proofs.Numbers.{both, below?, same?}
use Rattle.lists.proofs.Ranges.{length-range}
use Rattle.lists.proofs.Filling.{map_range, filled-all}
use Rattle.mesh_orders.specs.Edges.{from, to, occurrences, edge, reverse, Faces}
use Rattle.mesh_orders.specs.Order.{order_list}
use Rattle.mesh_orders.specs.Mates.{mate, mates}
use Rattle.mesh_orders.specs.EdgeLaws.{has-own, has_pair, edge_self, occurs-two, some_use, edge-one, number-has, small-to}
use Rattle.mesh_orders.specs.OrderLaws.{order-length, order_below, place, places_apart, order-edges, ascending-edges}
use Rattle.mesh_orders.specs.MateLaws.{mate-reverse, reverse-occurs, occurs-mate, mate-only}
use Rattle.mesh.specs.Accepted.{Closed}
use Rattle.mesh.specs.CauseLaws.{none_each, each_none}
use Rattle.mesh_laws.specs.ClosedLaws.{pairs_closed}
use Rattle.sheet.specs.Checker.{ascends, wrong_order, is_reverse, wrong_mate}

after_first : (a b : Bool) → (a || b) ≡ true → a ≡ false → b ≡ true
after_first true b e z = cc
after_first false b e z = e

later : (i : ℕ) → eqb (suc i) 0 ≡ false
later i = ne_eqb (suc i) 0 (λ e. omega arith)

-- each entry above the one before it: each above all before it
steps_ascend : (k : ℕ → ℕ) (l : List ℕ) → ((i : ℕ) → suc i < length l → k (get_or l i 0) < k (get_or l (suc i) 0)) → Ascending k l
steps_ascend k l h i zero ij jl = absurd (not-suc-le-zero ij)
steps_ascend k l h i (suc j) ij jl =
    ⊎_elim (λ e. subst (λ (x : ℕ). k (get_or l x 0) < k (get_or l (suc j) 0)) (sym e) (h j jl))
    (λ l'. omega (arith, steps_ascend k l h i j l' (omega arith), h j jl)) (eq-or-lt_of_le (le_of_suc-le-suc ij))

module _ (f o : List ℕ) (n : length o ≡ length f) (e : wrong_order f o ≡ Ok tt) where
  each-ascends : (i : ℕ) → i < length f → ascends f o i ≡ true
  unfolding wrong_order
  each-ascends = none_each (length f) (ascends f o) (λ i. WrongOrder) e

  order-entries : Below o (length f)
  order-entries i l =
      ltb-true (get_or o i 0) (length f) (both (ltb (get_or o i 0) (length f)) (eqb i 0 || ltb (edge f (get_or o (i - 1) 0)) (edge f (get_or o i 0))) (each-ascends i (omega arith))).0

  edges_ascend : Ascending (edge f) o
  edges_ascend =
      steps_ascend (edge f) o (λ i l.
      let t = (both (ltb (get_or o (suc i) 0) (length f)) (eqb (suc i) 0 || ltb (edge f (get_or o (suc i - 1) 0)) (edge f (get_or o (suc i) 0))) (each-ascends (suc i) (omega arith))).1 in
      let z : suc i - 1 ≡ i = omega arith in
      rw z at (ltb-true (edge f (get_or o (suc i - 1) 0)) (edge f (get_or o (suc i) 0)) (after_first (eqb (suc i) 0) _ t (later i))))

  module _ (h : Faces f) where
    pub is-order : o ≡ order_list f
    is-order = ascending-edges f h o n order-entries edges_ascend

    -- no two uses have the same edge
    apart : (u w : ℕ) → u < length f → w < length f → edge f w ≡ edge f u → w ≡ u
    apart u w ul wl q =
        let i = place f u ul in
        let j = place f w wl in
        let a : edge f (get_or (order_list f) i.at 0) ≡ edge f u = ap (edge f) i.is in
        let c : edge f (get_or (order_list f) j.at 0) ≡ edge f w = ap (edge f) j.is in
        let s : Ascending (edge f) (order_list f) = subst (Ascending (edge f)) is-order edges_ascend in
        ⊎_elim (λ z. sym j.is ∙ ap (λ (x : ℕ). get_or (order_list f) x 0) (sym z) ∙ i.is)
        (λ z. ⊎_elim (λ l. absurd (omega (arith, s i.at j.at l j.within))) (λ l. absurd (omega (arith, s j.at i.at (omega arith) i.within))) (below? i.at j.at))
        (same? i.at j.at)

    single : (a b : ℕ) → occurrences f a b ≤ 1
    single a b = ⊎_elim (λ l. omega arith) one (below? (occurrences f a b) 1)
      where
        one : 1 ≤ occurrences f a b → occurrences f a b ≤ 1
        one l =
            let u = some_use f a b l in
            let q = has_pair f u.0 a b u.2 in
            omega (arith, sym (ap₂ (occurrences f) q.0 q.1) ∙ edge-one f h u.0 u.1 (λ w wl. apart u.0 w u.1 wl))

    module _ (m : List ℕ) (k : length m ≡ length f) (g : wrong_mate f m ≡ Ok tt) where
      reverses : (u : ℕ) → u < length f → (get_or m u 0 < length f) × (edge f (get_or m u 0) ≡ reverse f u)
      unfolding wrong_mate
      reverses u l =
          let t = both (ltb (get_or m u 0) (length f)) (eqb (edge f (get_or m u 0)) (reverse f u)) (none_each (length f) (is_reverse f m) (λ i. WrongMate) g u l) in
          (ltb-true (get_or m u 0) (length f) t.0, eqb-true (edge f (get_or m u 0)) (reverse f u) t.1)

      pub is-mates : m ≡ mates f
      unfolding mates
      is-mates = filled-all (mate f) m (length f) k (λ u l. let r = reverses u (omega arith) in mate-only f u h (single (to f u) (from f u)) (get_or m u 0) r.0 r.1)

      pub is-closed : Closed f
      is-closed = pairs_closed f (record { once = single; back = back })
        where
          back : (a b : ℕ) → 1 ≤ occurrences f a b → 1 ≤ occurrences f b a
          back a b l =
              let u = some_use f a b l in
              let q = has_pair f u.0 a b u.2 in
              let r = reverses u.0 u.1 in
              omega (arith, reverse-occurs f u.0 h (get_or m u.0 0) r.0 r.1, ap₂ (occurrences f) q.1 q.0)

-- ---- of a closed mesh both pass

module _ (f : List ℕ) (h : Faces f) (c : Closed f) where
  strictly : (i j : ℕ) → i < j → j < length f → edge f (get_or (order_list f) i 0) < edge f (get_or (order_list f) j 0)
  strictly i j ij jl =
      let o = order_list f in
      let x = get_or o i 0 in
      let y = get_or o j 0 in
      let yl = order_below f j (omega (arith, order-length f)) in
      let xl = order_below f i (omega (arith, order-length f)) in
      ⊎_elim (λ e. absurd (twice x y xl yl (places_apart f i j ij jl) e)) (λ e. omega (arith, order-edges f h i j ij (omega (arith, order-length f)))) (same? (edge f x) (edge f y))
    where
      twice : (x y : ℕ) → x < length f → y < length f → (x ≡ y → ⊥) → edge f x ≡ edge f y → ⊥
      twice x y xl yl ne e =
          let a = from f x in
          let b = to f x in
          let p = has-own f x a b refl refl in
          let q = number-has f h y a b (omega (arith, small-to f h x)) (sym e ∙ edge_self f x) in
          ⊎_elim (λ l. omega (arith, occurs-two f a b x y l yl p q, c.once x xl))
          (λ l. ⊎_elim (λ z. ne (sym z)) (λ z. omega (arith, occurs-two f a b y x (omega arith) xl q p, c.once x xl)) (same? y x)) (below? x y)

  pub order_passes : wrong_order f (order_list f) ≡ Ok tt
  unfolding wrong_order
  order_passes = each_none (length f) (ascends f (order_list f)) (λ i. WrongOrder) (λ i l. at i l)
    where
      at : (i : ℕ) → i < length f → ascends f (order_list f) i ≡ true
      at zero l = rw (lt-ltb (get_or (order_list f) 0 0) (length f) (order_below f 0 (omega (arith, order-length f))))
      at (suc i) l =
          let z : suc i - 1 ≡ i = omega arith in
          rw (
            lt-ltb (get_or (order_list f) (suc i) 0) (length f) (order_below f (suc i) (omega (arith, order-length f))),
            z,
            later i,
            lt-ltb (edge f (get_or (order_list f) i 0)) (edge f (get_or (order_list f) (suc i) 0)) (strictly i (suc i) (omega arith) l),
          )

  mate-within : (u : ℕ) → u < length f → mate f u < length f
  mate-within u l = occurs-mate f u h (omega (arith, c.back u l))

  pub mates-below : Below (mates f) (length f)
  unfolding mates
  mates-below u l =
      let k : u < length f = omega (arith, length-map (range 0 (length f)) (mate f), length-range 0 (length f)) in
      let z : 0 + u ≡ u = omega arith in
      rw (map_range (mate f) 0 (length f) u k, z) (mate-within u k)

  pub mates_pass : wrong_mate f (mates f) ≡ Ok tt
  unfolding wrong_mate mates
  mates_pass =
      each_none (length f) (is_reverse f (map (mate f) (range 0 (length f)))) (λ u. WrongMate) (λ u l.
      let l' = mate-within u l in
      let z : 0 + u ≡ u = omega arith in
      rw (map_range (mate f) 0 (length f) u l, z, lt-ltb (mate f u) (length f) l', eq-eqb (edge f (mate f u)) (reverse f u) (mate-reverse f u l')))

pub mates-length : (f : List ℕ) → length (mates f) ≡ length f
unfolding mates
mates-length f = length-map (range 0 (length f)) (mate f) ∙ length-range 0 (length f)
