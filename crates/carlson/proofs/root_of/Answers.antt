-- `carlson::root_of` meets its contract. Assumes nothing.
use Rattle.doubles.proofs.Signs.{true→T}
use Rattle.carlson.proofs.One.{root_of-one}
use Rattle.carlson.proofs.root_of.Goals as goal

pub returns-then-x : goal.returns-then-x
returns-then-x c = root_of-one c.args.x (true→T c.well_formed.0.1) c.if-x.true
