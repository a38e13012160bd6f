-- `doubles::abs` meets its contract. Assumes nothing.
use mathlib.Core.Path.{sym, ap, ◌∙◌}
use Rattle.doubles.specs.Magnitude.{abs}
use Rattle.doubles.proofs.Signs.{true→T, false→T, ne_self, is-nan}
use Rattle.doubles.proofs.SignBit.{abs-bits, abs_no_nan}
use Rattle.doubles.proofs.abs.Goals as goal

pub returns-then-is_nan : goal.returns-then-is_nan
unfolding abs
returns-then-is_nan c = let e = is-nan c.args.x (ne_self c.args.x ∙ sym c.is_nan.ensures.value ∙ c.if-is_nan.true) in e ∙ sym (ap abs e)

pub float_from_bits-result : goal.float_from_bits-result
float_from_bits-result c = abs_no_nan c.args.x (false→T (sym c.is_nan.ensures.value ∙ c.if-is_nan.false)) (true→T c.well_formed.0.1)

pub returns : goal.returns
returns c = abs-bits c.args.x (false→T (sym c.is_nan.ensures.value ∙ c.if-is_nan.false)) (true→T c.well_formed.0.1)
