-- `doubles::within_limits` meets its contract. Assumes nothing.
use Rattle.doubles.proofs.Magnitude.{limit_test}
use Rattle.doubles.proofs.within_limits.Goals as goal

pub returns : goal.returns
returns c = rw c.abs.ensures (limit_test c.args.x)
