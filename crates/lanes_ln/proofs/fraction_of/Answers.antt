-- `lanes_ln::fraction_of` meets its contract. Assumes nothing.
use mathlib.Core.Path.{refl}
use native.Mathlib.Omega.{arith}
use Rattle.doubles.proofs.Fields.{no_nan}
use Rattle.lanes_ln.specs.LnLanes.{fraction_of}
use Rattle.lanes_ln.proofs.fraction_of.Goals as goal

pub float_from_bits-result : goal.float_from_bits-result
float_from_bits-result c = no_nan _ (omega arith)

pub returns : goal.returns
unfolding fraction_of
returns c = refl
