-- `mesh_orders::order::OrderedFaces::mate` meets its contract: the mate stands where the search ends, or nowhere. Assumes nothing.
use mathlib.Core.Path.{◌≡◌, sym, ap, subst, ◌∙◌}
use mathlib.Core.Bool.{true}
use mathlib.Core.List.{List}
use Prim.Native.Nat.{ℕ, ◌<◌, ◌≤◌}
use native.Mathlib.Omega.{arith}
use borrow.Author.Tests.{ltb-true}
use lib.ListN.{length, get_or}
use lib.Dec.{ltb}
use Rattle.std.proofs.lemmas.Grind.{get_or_default_zero}
use Rattle.lists.specs.Sort.{Sorted, LowerBound}
use Rattle.mesh_orders.specs.Edges.{edge, reverse, Faces}
use Rattle.mesh_orders.specs.Order.{order_list, Uses}
use Rattle.mesh_orders.specs.OrderLaws.{order-length, order-uses, order-edges}
use Rattle.mesh_orders.specs.Mates.{mate}
use Rattle.mesh_orders.specs.MateLaws.{search_found, search_none}
use Rattle.mesh_orders.proofs.order.OrderedFaces.mate.Goals.{in_default-via-in-Some+else-edge-e, in_default-via-in_default}
use Rattle.mesh_orders.proofs.order.OrderedFaces.mate.Goals as goal

-- what `get` finds at place i
found_at : (o : List ℕ) (i w : ℕ) → true ≡ ltb i (length o) → w ≡ get_or o i w → (i < length o) × (w ≡ get_or o i 0)
found_at o i w t e = let l : i < length o = ltb-true i (length o) (sym t) in (l, e ∙ get_or_default_zero o i w l)

module _ (f o : List ℕ) (u i e : ℕ) (h : Faces f) (is : o ≡ order_list f) (back : e ≡ reverse f u) (b : LowerBound (edge f) o e i) where
  bound : LowerBound (edge f) (order_list f) (reverse f u) i
  bound = subst (λ (x : ℕ). LowerBound (edge f) (order_list f) x i) back (subst (λ (l : List ℕ). LowerBound (edge f) l e i) is b)

  size : length o ≡ length f
  size = ap length is ∙ order-length f

  found : (w : ℕ) → true ≡ ltb i (length o) → w ≡ get_or o i w → edge f w ≡ e → w ≡ mate f u
  found w t g q =
      let p = found_at o i w t g in
      let same : w ≡ get_or (order_list f) i 0 = p.1 ∙ ap (λ (l : List ℕ). get_or l i 0) is in
      same ∙ search_found f u h i bound (omega (arith, p.0, size)) (sym (ap (edge f) same) ∙ q ∙ back)

  other : (w : ℕ) → true ≡ ltb i (length o) → w ≡ get_or o i w → (edge f w ≡ e → ⊥) → length f ≡ mate f u
  other w t g q =
      let p = found_at o i w t g in
      let same : w ≡ get_or (order_list f) i 0 = p.1 ∙ ap (λ (l : List ℕ). get_or l i 0) is in
      search_none f u h i bound (λ l z. q (ap (edge f) same ∙ z ∙ sym back))

  past : length o ≤ i → length f ≡ mate f u
  past n = search_none f u h i bound (λ l z. absurd (omega (arith, size)))

pub lower-i-requires : goal.lower-i-requires
lower-i-requires c =
    let uses : Uses c.args.self.faces.now c.args.self.order.now = subst (Uses c.args.self.faces.now) (sym c.args.self.sorted) (order-uses c.args.self.faces.now c.args.self.few) in
    (uses, subst (Sorted (edge c.args.self.faces.now)) (sym c.args.self.sorted) (order-edges c.args.self.faces.now c.args.self.few))

pub edge-requires : goal.edge-requires
edge-requires c =
    let uses : Uses c.args.self.faces.now c.args.self.order.now = subst (Uses c.args.self.faces.now) (sym c.args.self.sorted) (order-uses c.args.self.faces.now c.args.self.few) in
    let g = c.in-Some.ensures.lookup in
    let p = found_at c.args.self.order.now c.lower-i.result c.in-Some.field-0.now g.0 g.1 in
    (c.args.self.few.triples, omega (arith, p.1, uses.below _ p.0))

pub returns-in-Some : goal.returns-in-Some
returns-in-Some c =
    let g = c.in-Some.ensures.lookup in
    found c.args.self.faces.now c.args.self.order.now c.args.u c.lower-i.result c.reverse-e.result c.args.self.few c.args.self.sorted c.reverse-e.ensures c.lower-i.ensures c.in-Some.field-0.now g.0 g.1
    (sym c.edge.ensures ∙ c.if-edge-e.true)

pub returns-in_default : goal.returns-in_default
returns-in_default c =
    let f = c.args.self.faces.now in
    let o = c.args.self.order.now in
    let i = c.lower-i.result in
    let e = c.reverse-e.result in
    elim c.in_default.branch [
      | in_default-via-in-Some+else-edge-e w ↦ other f o c.args.u i e c.args.self.few c.args.self.sorted c.reverse-e.ensures c.lower-i.ensures w.in-Some.field-0.now w.in-Some.ensures.lookup.0 w.in-Some.ensures.lookup.1
          (λ q. w.if-edge-e.false (w.edge.ensures ∙ q))
      | in_default-via-in_default w ↦ past f o c.args.u i e c.args.self.few c.args.self.sorted c.reverse-e.ensures c.lower-i.ensures w.in_default.ensures.lookup.3
    ]
