-- `carlson::quarter` meets its contract. Assumes nothing.
use Rattle.std.proofs.Common.{sym}
use Rattle.doubles.specs.QuarterLaw.{quarter_as_product}
use Rattle.carlson.specs.CarlsonLoop.{quarter}
use Rattle.carlson.proofs.quarter.Goals as goal

pub returns : goal.returns
unfolding quarter
returns c = sym (quarter_as_product _)
