-- States: `holds-mates`: where no edge occurs twice and every reverse occurs, the order list sorted once more by the vertex reached has at each place the mate of what the order list has
-- there. Assumes nothing.
use mathlib.Core.Path.{◌≡◌, refl, sym, ap, ap₂, subst, subst₂, ◌∙◌}
use mathlib.Core.Bool.{true}
use mathlib.Core.List.{List, [], ◌∷◌, map}
use mathlib.Core.Logic.{◌⊎◌, inl, inr, ⊎_elim}
use Prim.Native.Nat.{ℕ, zero, suc, ◌+◌, ◌*◌, ◌≤◌, ◌<◌}
use native.Mathlib.Nat.{not-suc-le-zero, le_of_suc-le-suc}
use native.Mathlib.Omega.{arith}
use lib.ListN.{length, get_or, length-map}
use borrow.Author.Tests.{leb-true}
use Rattle.std.specs.Prelude.{Ok}
use Rattle.lists.specs.Count.{Below}
use Rattle.lists.specs.Sort.{Ascending}
use Rattle.lists.specs.CountingSort.{Placed}
use Rattle.lists.proofs.Numbers.{below?}
use Rattle.lists.proofs.Counting.{placed_below, placed-ascends}
use Rattle.mesh_orders.specs.Edges.{from, to, occurrences, 2³², edge_number, edge, reverse, Faces}
use Rattle.mesh_orders.specs.Endpoint.{endpoint}
use Rattle.mesh_orders.specs.Order.{key, order_list}
use Rattle.mesh_orders.specs.Mates.{mate}
use Rattle.mesh_orders.specs.EdgeLaws.{number_apart, order-number, edge_self, reverse_self, small-from, small-to, has-own, occurs-two, key-order}
use Rattle.mesh_orders.specs.OrderLaws.{order-length, order_below, place, order_strict, ascending-edges}
use Rattle.mesh_orders.specs.MateLaws.{mate-reverse, mate-only, occurs-mate}
use Rattle.mesh.specs.Check.{occurs_once, flipped_at, flipped_edge, reverse_occurs, open_at, open_edge}
use Rattle.mesh.specs.CauseLaws.{none_each}
use Rattle.mesh_check.specs.CheckedMates.{HoldsMates}

map_at : (g : ℕ → ℕ) (l : List ℕ) (i : ℕ) → i < length l → get_or (map g l) i 0 ≡ g (get_or l i 0)
map_at g [] i h = absurd (not-suc-le-zero h)
map_at g (x ∷ l) zero h = refl
map_at g (x ∷ l) (suc i) h = map_at g l i (le_of_suc-le-suc h)

-- more than any key
abbrev bound : ℕ
bound = 2³² * 2³²

-- two numbers as one, in order
in_order : (a b x y : ℕ) → x < bound → y < bound → a * bound + x < b * bound + y → (a < b) ⊎ ((a ≡ b) × (x < y))
in_order a b x y hx hy l = ⊎_elim (λ q. inl q) (λ q. inr (omega arith)) (below? a b)

-- (to, from) in order: so are the reverses
reverse-less : (f : List ℕ) → Faces f → (u w : ℕ) → (to f u < to f w) ⊎ ((to f u ≡ to f w) × (from f u < from f w)) → reverse f u < reverse f w
reverse-less f h u w l = omega (arith, reverse_self f u, reverse_self f w, order-number (to f u) (from f u) (to f w) (from f w) (omega (arith, small-from f h u)) l)

module _ (f s : List ℕ) (h : Faces f) (no-flipped : flipped_edge f (order_list f) ≡ Ok tt) (no-open : open_edge f (order_list f) ≡ Ok tt) (p : Placed (endpoint true f) (order_list f) s) where
  once : (u : ℕ) → u < length f → occurrences f (from f u) (to f u) ≤ 1
  unfolding flipped_edge
  once u l =
      let q = place f u l in
      subst (λ (x : ℕ). occurrences f (from f x) (to f x) ≤ 1) q.is
      (leb-true _ 1 (none_each (length f) (occurs_once f (order_list f)) (flipped_at f (order_list f)) no-flipped q.at (omega (arith, q.within, order-length f))))

  has-mate : (u : ℕ) → u < length f → mate f u < length f
  unfolding open_edge
  has-mate u l =
      let q = place f u l in
      occurs-mate f u h (subst (λ (x : ℕ). 1 ≤ occurrences f (to f x) (from f x)) q.is
      (leb-true 1 _ (none_each (length f) (reverse_occurs f (order_list f)) (open_at f (order_list f)) no-open q.at (omega (arith, q.within, order-length f)))))

  size : length s ≡ length f
  size = p.size ∙ order-length f

  below : Below s (length f)
  below = placed_below (endpoint true f) (order_list f) s p (length f) (order_below f)

  key-small : (u : ℕ) → u < length f → key f u < bound
  unfolding key edge
  key-small u l = omega (arith, small-from f h u, small-to f h u, h.few)

  ascends : Ascending (λ u. to f u * bound + key f u) s
  ascends = placed-ascends (endpoint true f) (order_list f) s p (key f) bound (λ i l. key-small (get_or (order_list f) i 0) (order_below f i l)) (order_strict f h)

  -- of two uses of s the first has the smaller reverse, since no two have the same edge
  reverses_ascend : (u w : ℕ) → u < length f → w < length f → to f u * bound + key f u < to f w * bound + key f w → reverse f u < reverse f w
  reverses_ascend u w ul wl l = reverse-less f h u w (⊎_elim (λ q. inl q) same_end (in_order (to f u) (to f w) (key f u) (key f w) (key-small u ul) (key-small w wl) l))
    where
      same_end : (to f u ≡ to f w) × (key f u < key f w) → (to f u < to f w) ⊎ ((to f u ≡ to f w) × (from f u < from f w))
      same_end q =
          ⊎_elim (λ b. ⊎_elim (λ a. inr (q.0, a)) (λ a. inl a.1) b)
          (λ a. absurd (omega (arith, once w wl, occurs-two f (from f w) (to f w) u w a.2 wl (has-own f u (from f w) (to f w) a.0 a.1) (has-own f w (from f w) (to f w) refl refl))))
          (key-order f h u w ul wl q.1)

  -- so the mates of its entries are the order list
  abbrev mated : List ℕ
  mated = map (mate f) s

  mated-at : (i : ℕ) → i < length s → get_or mated i 0 ≡ mate f (get_or s i 0)
  mated-at i l = map_at (mate f) s i l

  mated-size : length mated ≡ length f
  mated-size = length-map s (mate f) ∙ size

  mated-edge : (i : ℕ) → i < length s → edge f (get_or mated i 0) ≡ reverse f (get_or s i 0)
  mated-edge i l = ap (edge f) (mated-at i l) ∙ mate-reverse f (get_or s i 0) (has-mate (get_or s i 0) (below i l))

  is-order : mated ≡ order_list f
  is-order = ascending-edges f h mated mated-size inside up
    where
      inside : Below mated (length f)
      inside i l = let g : i < length s = omega (arith, mated-size, size) in subst (λ (x : ℕ). x < length f) (sym (mated-at i g)) (has-mate (get_or s i 0) (below i g))

      up : Ascending (edge f) mated
      up i j ij l =
          let g : j < length s = omega (arith, mated-size, size) in
          omega (arith, mated-edge i (omega arith), mated-edge j g, reverses_ascend (get_or s i 0) (get_or s j 0) (below i (omega arith)) (below j g) (ascends i j ij g))

  -- and they themselves the mates of the order list's
  partner : (k : ℕ) → k < length f → get_or s k 0 ≡ mate f (get_or (order_list f) k 0)
  partner k l =
      let g : k < length s = omega (arith, size) in
      let u = get_or (order_list f) k 0 in
      let w = get_or s k 0 in
      let e : edge f u ≡ reverse f w = ap (λ (m : List ℕ). edge f (get_or m k 0)) (sym is-order) ∙ mated-edge k g in
      let t = number_apart (from f u) (to f u) (to f w) (from f w) (omega (arith, small-to f h u)) (omega (arith, small-from f h w)) (sym (edge_self f u) ∙ e ∙ reverse_self f w) in
      mate-only f u h (subst₂ (λ (x y : ℕ). occurrences f x y ≤ 1) (sym t.1) (sym t.0) (once w (below k g))) w (below k g)
      (edge_self f w ∙ ap₂ edge_number (sym t.1) (sym t.0) ∙ sym (reverse_self f u))

  pub holds-mates : HoldsMates f s
  holds-mates = record { size = size; at = partner }
