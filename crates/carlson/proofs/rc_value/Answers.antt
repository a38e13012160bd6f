-- `carlson::rc_value` meets its contract. Assumes nothing.
use Rattle.std.proofs.Common.{rules}
use lib.Ieee.{of_bits}
use Rattle.carlson.specs.Rc.{rc_or}
use Rattle.carlson.proofs.rc_value.Goals as goal

pub returns : goal.returns
unfolding rc_or of_bits
returns c = search rules
