-- `prism_corner_sums::corner_sums` meets its contract. Assumes nothing.
use mathlib.Core.Path.{◌≡◌}
use Prim.Native.Nat.{◌≤◌, ◌-◌}
use Rattle.newtonian.specs.Vectors.{zero_field}
use Rattle.newtonian.specs.Fold.{Fold}
use Rattle.prism_corner_sums.specs.CornerSums.{add_corner}
use Rattle.prism_corner_sums.proofs.corner_sums.Given as goal

abbrev pub invariant-loop-k : goal.invariant-loop-k
invariant-loop-k l = (l.k ≤ 8) × (l.f ≡ Fold l.k (add_corner l.p l.bounds.lo l.bounds.hi) zero_field)

abbrev pub decreases-loop-k : goal.decreases-loop-k
decreases-loop-k l = 8 - l.k
