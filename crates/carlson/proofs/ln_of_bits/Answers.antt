-- `carlson::ln_of_bits` meets its contract. Assumes nothing.
use native.Mathlib.Omega.{arith}
use Rattle.doubles.proofs.Fields.{no_nan}
use Rattle.carlson.specs.Rc.{rc_value}
use Rattle.carlson.proofs.LnBits.{low_bits, high_bits}
use Rattle.carlson.proofs.ln_of_bits.Goals as goal

pub float_from_bits-digits : goal.float_from_bits-digits
float_from_bits-digits c = no_nan _ (omega arith)

pub returns-then-digits-lt2251799813685248 : goal.returns-then-digits-lt2251799813685248
returns-then-digits-lt2251799813685248 c = rw (c.ln_at.ensures, c.difference.ensures) (low_bits rc_value _ _ (omega arith))

pub float_from_bits-digits-2 : goal.float_from_bits-digits-2
float_from_bits-digits-2 c = no_nan _ (omega arith)

pub returns : goal.returns
returns c = rw (c.ln_at-2.ensures, c.difference-2.ensures) (high_bits rc_value _ _ (omega arith))
