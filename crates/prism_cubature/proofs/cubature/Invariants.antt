-- `prism_cubature::cubature` meets its contract. Assumes nothing.
use mathlib.Core.Path.{◌≡◌}
use lib.ListN.{length}
use Rattle.newtonian.specs.Vectors.{zero_field}
use Rattle.newtonian.specs.Fold.{Fold}
use Rattle.prism_cubature.specs.Cubature.{layer}
use Rattle.prism_cubature.proofs.Given.{Passed}
use Rattle.prism_cubature.proofs.cubature.Given as goal

abbrev pub invariant-loop-node : goal.invariant-loop-node
invariant-loop-node l =
    Passed l.initial.node-iterator.a.rest.now l.initial.node-iterator.b.rest.now (length l.yielded) l.node-iterator.a.rest.now l.node-iterator.b.rest.now
    × (l.sums ≡ Fold (length l.yielded) (layer l.p l.bounds.lo l.bounds.hi l.l l.rule_y.count l.rule_z.count) zero_field)
