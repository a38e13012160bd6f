-- The loop of `legendre::padded`: the first n entries of the array and the zeros after them are the first i entries of the table, and zeros after them.
use Rattle.std.proofs.Common.{◌≡◌, ◌+◌, ◌++◌, drop}
use Rattle.legendre.specs.GaussLegendre.{entry, zeros, padded}
use Rattle.legendre.proofs.padded.Given as goal

abbrev pub invariant-loop-i : goal.invariant-loop-i
invariant-loop-i l = l.x-items ++ drop l.n zeros ≡ padded l.i (λ j. entry (l.start + j))
