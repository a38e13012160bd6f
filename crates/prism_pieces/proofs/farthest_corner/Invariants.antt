-- `prism_pieces::farthest_corner` meets its contract. Assumes nothing.
use Prim.Native.Nat.{◌≤◌, ◌-◌}
use mathlib.Core.Path.{◌≡◌}
use Rattle.doubles.specs.Constants.{0·0}
use Rattle.newtonian.specs.Fold.{Fold}
use Rattle.prism_pieces.specs.Choice.{farther_corner}
use Rattle.prism_pieces.proofs.farthest_corner.Given as goal

abbrev pub invariant-loop-k : goal.invariant-loop-k
invariant-loop-k l = (l.k ≤ 8) × (l.m ≡ Fold l.k (farther_corner l.p l.bounds.lo l.bounds.hi) 0·0)

abbrev pub decreases-loop-k : goal.decreases-loop-k
decreases-loop-k l = 8 - l.k
