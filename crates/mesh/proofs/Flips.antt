-- Neighbours in the order list. States: `same_twice`: an edge that stands at two places in a row occurs twice; `differs_once`: one that differs from its neighbours occurs once;
-- `differ_none`: so where all neighbours differ there is no cause 5. Assumes nothing.
use mathlib.Core.Path.{◌≡◌, refl, sym, ap, ◌∙◌}
use mathlib.Core.Bool.{true}
use mathlib.Core.List.{List}
use mathlib.Core.Logic.{◌⊎◌, ⊎_elim}
use Prim.Native.Nat.{ℕ, ◌+◌, ◌≤◌, ◌<◌}
use native.Mathlib.Nat.{le_of_eq}
use native.Mathlib.Omega.{arith}
use lib.ListN.{length, get_or}
use borrow.Author.Tests.{le-leb}
use Rattle.std.specs.Prelude.{Ok}
use Rattle.refusals.specs.Causes.{unless, first_of}
use Rattle.refusals.proofs.Causes.{from_each, passes}
use Rattle.lists.proofs.Numbers.{same?, below?}
use Rattle.mesh_orders.specs.Edges.{from, to, has, occurrences, edge, Faces}
use Rattle.mesh_orders.specs.Order.{order_list}
use Rattle.mesh_orders.specs.EdgeLaws.{edge_self, has-own, number-has, small-to, occurs-two, edge-one}
use Rattle.mesh.specs.Check.{occurs_once, flipped_at}
use Rattle.mesh_orders.specs.OrderLaws.{order-length, order_below, place, places_apart, edge-le}

module _ (f : List ℕ) (h : Faces f) where
  -- the edge at place k of the order list
  abbrev edge_at : ℕ → ℕ
  edge_at k = edge f (get_or (order_list f) k 0)

  pub differs_once : (k : ℕ) → k < length f → ((j : ℕ) → j ≤ k → j + 1 < length f → edge_at j ≡ edge_at (j + 1) → ⊥)
      → occurrences f (from f (get_or (order_list f) k 0)) (to f (get_or (order_list f) k 0)) ≡ 1
  differs_once k kl d = edge-one f h (get_or (order_list f) k 0) (order_below f k (omega (arith, order-length f))) alone
    where
      alone : (w : ℕ) → w < length f → edge f w ≡ edge_at k → w ≡ get_or (order_list f) k 0
      alone w wl e =
          let p = place f w wl in
          let pl : p.at < length f = omega (arith, p.within, order-length f) in
          let q : edge_at p.at ≡ edge_at k = ap (edge f) p.is ∙ e in
          ⊎_elim
          (λ l. absurd (d p.at (omega arith) (omega arith) (omega (arith, q, edge-le f h p.at (p.at + 1) (omega arith) (omega arith), edge-le f h (p.at + 1) k (omega arith) kl))))
          (λ l. ⊎_elim (λ z. sym p.is ∙ ap (λ (i : ℕ). get_or (order_list f) i 0) z)
          (λ z. absurd (d k (omega arith) (omega arith) (omega (arith, q, edge-le f h k (k + 1) (omega arith) (omega arith), edge-le f h (k + 1) p.at (omega arith) pl))))
          (same? p.at k))
          (below? p.at k)

  pub same_twice : (k : ℕ) → k + 1 < length f → edge_at k ≡ edge_at (k + 1) → 1 < occurrences f (from f (get_or (order_list f) k 0)) (to f (get_or (order_list f) k 0))
  same_twice k kl e =
      ⊎_elim (λ l. occurs-two f (from f u) (to f u) u w l wl own other)
      (λ l. occurs-two f (from f u) (to f u) w u (omega (arith, places_apart f k (k + 1) (omega arith) kl)) ul other own)
      (below? u w)
    where
      u : ℕ
      u = get_or (order_list f) k 0

      w : ℕ
      w = get_or (order_list f) (k + 1) 0

      ul : get_or (order_list f) k 0 < length f
      ul = order_below f k (omega (arith, order-length f))

      wl : get_or (order_list f) (k + 1) 0 < length f
      wl = order_below f (k + 1) (omega (arith, order-length f))

      own : has f (from f (get_or (order_list f) k 0)) (to f (get_or (order_list f) k 0)) (get_or (order_list f) k 0) ≡ true
      own = has-own f (get_or (order_list f) k 0) (from f (get_or (order_list f) k 0)) (to f (get_or (order_list f) k 0)) refl refl

      other : has f (from f (get_or (order_list f) k 0)) (to f (get_or (order_list f) k 0)) (get_or (order_list f) (k + 1) 0) ≡ true
      other =
          number-has f h (get_or (order_list f) (k + 1) 0) (from f (get_or (order_list f) k 0)) (to f (get_or (order_list f) k 0)) (omega (arith, small-to f h (get_or (order_list f) k 0)))
          (sym e ∙ edge_self f (get_or (order_list f) k 0))

  -- places before i differ from the next: none of the first n places is flipped, where n is at most i or i is the last place
  pub differ_none : (i n : ℕ) → n ≤ length f → (n ≤ i) ⊎ (length f ≤ i + 1) → ((j : ℕ) → j < i → edge_at j ≡ edge_at (j + 1) → ⊥)
      → first_of n (λ i. unless (occurs_once f (order_list f) i) (flipped_at f (order_list f) i)) ≡ Ok tt
  differ_none i n nl far d =
      from_each n (λ k. unless (occurs_once f (order_list f) k) (flipped_at f (order_list f) k)) (λ k kn.
      passes (occurs_once f (order_list f) k) (flipped_at f (order_list f) k)
      (le-leb (occurrences f (from f (get_or (order_list f) k 0)) (to f (get_or (order_list f) k 0))) 1
      (le_of_eq (differs_once k (omega arith) (λ j jk jl. d j (⊎_elim (λ a. omega arith) (λ a. omega arith) far))))))
