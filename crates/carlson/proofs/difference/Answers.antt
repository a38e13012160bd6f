-- `carlson::difference` meets its contract. Assumes nothing.
use native.Mathlib.Omega.{arith}
use Rattle.doubles.proofs.Signs.{minus_neg}
use Rattle.carlson.proofs.difference.Goals as goal

pub returns : goal.returns
returns c = minus_neg _ _ _ (omega arith)
