-- `legendre::Rule::of_order` meets its contract. The table of the code is that of the definition by `refl`. Assumes nothing.
use mathlib.Core.Path.{refl}
use native.Mathlib.Omega.{arith}
use Rattle.legendre.specs.Table.{table}
use Rattle.legendre.specs.GaussLegendre.{node, weight}
use Rattle.legendre.proofs.Entries.{square}
use Rattle.legendre.proofs.Rule.of_order.Goals as goal

pub padded-nodes-requires : goal.padded-nodes-requires
unfolding table
padded-nodes-requires c = let s = square c.args.order c.requires in (refl, omega arith, omega arith)

pub padded-weights-requires : goal.padded-weights-requires
unfolding table
padded-weights-requires c = let s = square c.args.order c.requires in (refl, omega arith, s)

pub returns : goal.returns
unfolding node weight
returns c = simp (c.padded-nodes.ensures, c.padded-weights.ensures)
