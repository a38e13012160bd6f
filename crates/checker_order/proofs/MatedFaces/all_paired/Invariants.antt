-- `checker_order::MatedFaces::all_paired` meets its contract: the mates so far are paired. Assumes nothing.
use mathlib.Core.Path.{◌≡◌}
use Prim.Native.Nat.{ℕ, ◌-◌, ◌%◌, ◌≤◌, ◌<◌}
use lib.ListN.{length}
use Rattle.checker_order.specs.Reverses.{mates_of}
use Rattle.checker_order.specs.Paired.{PairedAt}
use Rattle.checker_order.proofs.MatedFaces.all_paired.Given as goal

abbrev pub invariant-loop-i : goal.invariant-loop-i
invariant-loop-i l = let f = l.self.faces.now in (l.i ≤ length f) × (l.i % 3 ≡ 0) × ((u : ℕ) → u < l.i → PairedAt f (mates_of f l.self.mates.now) u)

abbrev pub decreases-loop-i : goal.decreases-loop-i
decreases-loop-i l = length l.self.faces.now - l.i
