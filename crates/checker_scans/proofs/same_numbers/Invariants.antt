-- `checker_scans::same_numbers` meets its contract: the numbers so far have the bits of those given. Assumes nothing.
use Prim.Native.Nat.{ℕ, ◌<◌}
use Rattle.checker_scans.proofs.Compare.{Same}
use Rattle.checker_scans.proofs.same_numbers.Given as goal

abbrev pub invariant-loop-i : goal.invariant-loop-i
invariant-loop-i l = (j : ℕ) → j < l.i → Same l.sheet l.xs l.at j
