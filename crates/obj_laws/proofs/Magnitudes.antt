-- States `is_within_limits`: the test of refusal 3 holds exactly where the double is finite and its magnitude is at most 10⁹. Assumes nothing.
use Rattle.std.specs.Prelude.{◌≡◌, refl, true, false, ◌↔◌, Float, T}
use Rattle.std.proofs.Common.{subst, arith}
use Rattle.std.proofs.lemmas.Bool.{false≢true, true_from_ne_false}
use Rattle.std.specs.Float.{nan, inf, fin}
use Rattle.std.specs.Float.Ieee.{of_bits, le}
use Rattle.doubles.specs.Constants.{10⁹}
use Rattle.doubles.specs.Magnitude.{abs, within_limits}
use Rattle.doubles.proofs.FiniteUnsigned.{le→cross, cross→le}
use Rattle.doubles.proofs.Signs.{true→T}
use Rattle.obj_laws.specs.Readable.{InLimits}

limits_plain : (x : Float) → within_limits x ≡ true → InLimits x
unfolding within_limits abs of_bits
limits_plain nan e = absurd (false≢true e)
limits_plain (inf s) e = absurd (false≢true e)
limits_plain (fin s m e) h = record { number = refl; size = omega (arith, le→cross (fin false m e) 10⁹ tt tt (true→T h)) }

plain_limits : (x : Float) → InLimits x → within_limits x ≡ true
unfolding within_limits abs of_bits
plain_limits nan h = absurd (false≢true h.number)
plain_limits (inf s) h = absurd (false≢true h.number)
plain_limits (fin s m e) h = true_from_ne_false (le (fin false m e) 10⁹) (λ q. subst T q (cross→le (fin false m e) 10⁹ tt tt (omega (arith, h.size))))

pub is_within_limits : (x : Float) → (within_limits x ≡ true) ↔ InLimits x
is_within_limits x = (limits_plain x, plain_limits x)
