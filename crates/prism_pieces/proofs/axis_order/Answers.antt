-- `prism_pieces::axis_order` meets its contract. Assumes nothing.
use Rattle.prism_pieces.proofs.MinusLnEpsilon.{minus_ln_ε}
use Rattle.prism_pieces.specs.Choice.{axis_order}
use Rattle.prism_pieces.proofs.axis_order.Goals as goal

pub returns : goal.returns
unfolding axis_order
returns c = simp (c.ceiling.ensures, c.ln.ensures, c.root.ensures, minus_ln_ε)
