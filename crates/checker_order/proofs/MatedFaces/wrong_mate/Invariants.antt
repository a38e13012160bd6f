-- `checker_order::MatedFaces::wrong_mate` meets its contract: the mates so far are reverses. Assumes nothing.
use mathlib.Core.Path.{◌≡◌}
use Prim.Native.Nat.{◌-◌, ◌%◌, ◌≤◌}
use lib.ListN.{length}
use Rattle.checker_order.specs.Reverses.{mates_of}
use Rattle.checker_order.proofs.Mates.{Mates}
use Rattle.checker_order.proofs.MatedFaces.wrong_mate.Given as goal

abbrev pub invariant-loop-i : goal.invariant-loop-i
invariant-loop-i l = let f = l.self.faces.now in (l.i ≤ length f) × (l.i % 3 ≡ 0) × Mates f (mates_of f l.self.mates.now) l.i

abbrev pub decreases-loop-i : goal.decreases-loop-i
decreases-loop-i l = length l.self.faces.now - l.i
