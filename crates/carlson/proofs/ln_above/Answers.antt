-- `carlson::ln_above` meets its contract. Assumes nothing.
use mathlib.Core.Path.{◌∙◌}
use lib.Dec.{lit≤}
use Rattle.carlson.specs.Rc.{rc_value}
use Rattle.carlson.specs.Logarithm.{ln}
use Rattle.doubles.proofs.Signs.{true→T}
use Rattle.carlson.proofs.LnBits.{positive-number, own-bits-lt, ln-normal, int_bits-lt, int_positive, low_pos, ln_subnormal}
use Rattle.carlson.proofs.ln_above.Goals as goal

pub float_to_bits-b : goal.float_to_bits-b
float_to_bits-b c = positive-number c.args.x c.requires

pub float_to_bits-b-then-b-lt4503599627370496 : goal.float_to_bits-b-then-b-lt4503599627370496
float_to_bits-b-then-b-lt4503599627370496 c = positive-number _ (int_positive _ (low_pos c.args.x (true→T c.well_formed.0.1) c.requires c.if-b-lt4503599627370496.true) c.if-b-lt4503599627370496.true)

pub ln_of_bits-requires : goal.ln_of_bits-requires
ln_of_bits-requires c = (int_bits-lt c.args.x (true→T c.well_formed.0.1) c.requires c.if-b-lt4503599627370496.true, lit≤ tt)

pub returns-then-b-lt4503599627370496 : goal.returns-then-b-lt4503599627370496
unfolding ln
returns-then-b-lt4503599627370496 c = c.ln_of_bits.ensures ∙ ln_subnormal rc_value c.args.x (true→T c.well_formed.0.1) c.requires c.if-b-lt4503599627370496.true

pub ln_of_bits-requires-2 : goal.ln_of_bits-requires-2
ln_of_bits-requires-2 c = (own-bits-lt c.args.x (true→T c.well_formed.0.1) c.requires, lit≤ tt)

pub returns : goal.returns
unfolding ln
returns c = c.ln_of_bits-2.ensures ∙ ln-normal rc_value c.args.x (true→T c.well_formed.0.1) c.requires c.if-b-lt4503599627370496.false
