-- `prism_pieces::ceiling` meets its contract. Assumes nothing.
use Prim.Native.Nat.{◌≤◌, ◌-◌, ◌+◌}
use mathlib.Core.Path.{◌≡◌}
use Rattle.legendre.specs.GaussLegendre.{max_order}
use Rattle.newtonian.specs.Fold.{Fold}
use Rattle.prism_pieces.specs.Choice.{count_below}
use Rattle.prism_pieces.proofs.ceiling.Given as goal

abbrev pub invariant-loop-i : goal.invariant-loop-i
invariant-loop-i l = (l.i ≤ max_order) × (l.n ≤ l.i + 1) × (l.n ≡ Fold l.i (count_below l.x) 1)

abbrev pub decreases-loop-i : goal.decreases-loop-i
decreases-loop-i l = max_order - l.i
