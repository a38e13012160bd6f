-- `doubles::is_sign_negative` meets its contract. Assumes nothing.
use mathlib.Core.Path.{sym, ap, ◌∙◌}
use mathlib.Core.Bool.{not}
use Rattle.doubles.specs.Magnitude.{negative}
use Rattle.doubles.proofs.Signs.{ne_self, is-nan}
use Rattle.doubles.proofs.Magnitude.{negative_is}
use Rattle.doubles.proofs.is_sign_negative.Goals as goal

pub returns-then-not-is_nan : goal.returns-then-not-is_nan
returns-then-not-is_nan c = c.is_sign_negative.ensures ∙ negative_is c.args.x

pub returns-else-not-is_nan : goal.returns-else-not-is_nan
unfolding negative
returns-else-not-is_nan c = ap not c.if-not-is_nan.false ∙ sym (ap negative (is-nan c.args.x (ne_self c.args.x ∙ sym c.is_nan.ensures.value ∙ c.if-not-is_nan.false)))
