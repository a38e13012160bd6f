-- `special::finite_not_below_zero` meets its contract. Assumes nothing.
use Rattle.special.specs.Domain.{finite_not_below_zero}
use Rattle.special.proofs.finite_not_below_zero.Goals as goal

pub returns : goal.returns
unfolding finite_not_below_zero
returns c = simp c.is_finite.ensures
