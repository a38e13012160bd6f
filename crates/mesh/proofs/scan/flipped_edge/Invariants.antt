-- `mesh::scan::flipped_edge` meets its contract: each edge so far differs from the next, and the windows that are left are the end of the order list. Assumes nothing.
use mathlib.Core.Path.{◌≡◌}
use Prim.Native.Nat.{ℕ, ◌+◌, ◌-◌, ◌≤◌, ◌<◌}
use lib.ListN.{length, get_or, drop}
use Rattle.std.specs.Slice.Iter.{windows_size, windows_rest}
use Rattle.mesh_orders.specs.Edges.{edge}
use Rattle.mesh.proofs.scan.flipped_edge.Given as goal

abbrev pub invariant-loop-pair : goal.invariant-loop-pair
invariant-loop-pair l =
    let f = l.ordered.faces.now in
    let o = l.ordered.order.now in
    let rest = windows_rest l.pair-iterator in
    let i = length o - length rest in
    (windows_size l.pair-iterator ≡ 2)
    × (length rest ≤ length o)
    × (rest ≡ drop i o)
    × ((k : ℕ) → k < i → edge f (get_or o k 0) ≡ edge f (get_or o (k + 1) 0) → ⊥)
