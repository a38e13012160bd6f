-- `mesh::scan::flipped_edge` meets its contract: each edge so far differs from the next. Assumes nothing.
use mathlib.Core.Path.{◌≡◌, sym, ap, subst, ap₂, ◌∙◌}
use mathlib.Core.List.{List}
use mathlib.Core.Logic.{inl, inr}
use Prim.Native.Nat.{ℕ, ◌+◌, ◌-◌, ◌≤◌, ◌<◌}
use native.Mathlib.Omega.{arith}
use lib.ListN.{length, get_or}
use borrow.Author.Tests.{lt-leb}
use Rattle.std.specs.Slice.Iter.{windows_rest}
use Rattle.refusals.specs.declared.Refusal.TheVariants.{Flipped}
use Rattle.std.specs.Prelude.{Err}
use Rattle.mesh_orders.specs.Edges.{from, to, edge, IsUse, Faces}
use Rattle.mesh_orders.specs.Order.{order_list, Uses}
use Rattle.mesh_orders.specs.OrderLaws.{order-length, order-uses}
use Rattle.mesh.specs.Check.{occurs_once, flipped_at, flipped_edge}
use Rattle.mesh.proofs.Scans.{scan_stop}
use Rattle.mesh.proofs.Flips.{differ_none, same_twice}
use Rattle.mesh.proofs.Pairs.{pair_turn}
use Rattle.mesh.proofs.scan.flipped_edge.Goals as goal

module _ (f o : List ℕ) (h : Faces f) (is : o ≡ order_list f) where
  -- every entry is a use
  use_at : (i u : ℕ) → i < length o → u ≡ get_or o i 0 → IsUse f u
  use_at i u l e =
      let uses : Uses f o = subst (Uses f) (sym is) (order-uses f h) in
      (h.triples, omega (arith, e, uses.below i l))

  -- places before i differ from the next in the order list too
  differ : (i : ℕ) → ((k : ℕ) → k < i → edge f (get_or o k 0) ≡ edge f (get_or o (k + 1) 0) → ⊥)
      → (j : ℕ) → j < i → edge f (get_or (order_list f) j 0) ≡ edge f (get_or (order_list f) (j + 1) 0) → ⊥
  differ i d j l e =
      d j l (subst (λ (l : List ℕ). edge f (get_or l j 0) ≡ edge f (get_or l (j + 1) 0)) (sym is) e)

pub edge-requires : goal.edge-requires
edge-requires c =
    let l = c.loop-pair in
    let a = c.args.ordered in
    let turn = pair_turn a.order.now l.pair-iterator c.next.new.self _ _ c.in-Some.is c.next.ensures.steps l.invariant.0 l.invariant.1 l.invariant.2 in
    use_at a.faces.now a.order.now a.few a.sorted _ _ (omega (arith, turn.inside)) turn.first

pub edge-requires-in-loop-pair : goal.edge-requires-in-loop-pair
edge-requires-in-loop-pair c =
    let l = c.loop-pair in
    let a = c.args.ordered in
    let turn = pair_turn a.order.now l.pair-iterator c.next.new.self _ _ c.in-Some.is c.next.ensures.steps l.invariant.0 l.invariant.1 l.invariant.2 in
    use_at a.faces.now a.order.now a.few a.sorted _ _ (omega (arith, turn.inside)) turn.second

pub start-requires : goal.start-requires
start-requires c =
    let l = c.loop-pair in
    let a = c.args.ordered in
    let turn = pair_turn a.order.now l.pair-iterator c.next.new.self _ _ c.in-Some.is c.next.ensures.steps l.invariant.0 l.invariant.1 l.invariant.2 in
    use_at a.faces.now a.order.now a.few a.sorted _ _ (omega (arith, turn.inside)) turn.first

pub end-requires : goal.end-requires
end-requires c =
    let l = c.loop-pair in
    let a = c.args.ordered in
    let turn = pair_turn a.order.now l.pair-iterator c.next.new.self _ _ c.in-Some.is c.next.ensures.steps l.invariant.0 l.invariant.1 l.invariant.2 in
    use_at a.faces.now a.order.now a.few a.sorted _ _ (omega (arith, turn.inside)) turn.first

pub returns-then-edge : goal.returns-then-edge
unfolding flipped_edge
returns-then-edge c =
    let l = c.loop-pair in
    let a = c.args.ordered in
    let turn = pair_turn a.order.now l.pair-iterator c.next.new.self _ _ c.in-Some.is c.next.ensures.steps l.invariant.0 l.invariant.1 l.invariant.2 in
    let f = a.faces.now in
    let o = order_list f in
    let i = length a.order.now - length (windows_rest l.pair-iterator) in
    let inside : i + 1 < length f = omega (arith, turn.inside, ap length a.sorted, order-length f) in
    let same : get_or c.in-Some.pair.now 0 0 ≡ get_or o i 0 = turn.first ∙ ap (λ (l : List ℕ). get_or l i 0) a.sorted in
    let next : get_or c.in-Some.pair.now 1 0 ≡ get_or o (i + 1) 0 = turn.second ∙ ap (λ (l : List ℕ). get_or l (i + 1) 0) a.sorted in
    ap₂ (λ (a b : ℕ). Err (Flipped a b)) (c.start.ensures ∙ ap (from f) same) (c.end.ensures ∙ ap (to f) same)
    ∙ scan_stop (length f) (occurs_once f o) (flipped_at f o) i
    (omega (arith, inside)) (differ_none f a.few i i (omega (arith, inside)) (inl (omega arith)) (differ f a.order.now a.few a.sorted i l.invariant.3))
    (lt-leb _ 1 (same_twice f a.few i inside
    (sym (ap (edge f) same) ∙ sym c.edge.ensures ∙ c.if-edge.true ∙ c.edge-in-loop-pair.ensures ∙ ap (edge f) next)))

pub returns : goal.returns
unfolding flipped_edge
returns c =
    let l = c.loop-pair in
    let a = c.args.ordered in
    let f = a.faces.now in
    let i = length a.order.now - length (windows_rest l.pair-iterator) in
    let last : length f ≤ i + 1 = omega (arith, ap length a.sorted, order-length f, c.in-None.ensures.steps.1.0, l.invariant.0, l.invariant.1) in
    sym (differ_none f a.few i (length f) (omega arith) (inr last) (differ f a.order.now a.few a.sorted i l.invariant.3))
