-- `doubles::is_finite` meets its contract. Assumes nothing.
use mathlib.Core.Path.{◌∙◌}
use Rattle.doubles.proofs.Magnitude.{finite_is}
use Rattle.doubles.proofs.is_finite.Goals as goal

pub returns : goal.returns
returns c = c.is_finite.ensures.value ∙ finite_is c.args.x
