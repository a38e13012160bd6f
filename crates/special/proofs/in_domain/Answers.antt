-- `special::in_domain` meets its contract. Assumes nothing.
use Rattle.special.specs.Domain.{in_domain}
use Rattle.special.proofs.in_domain.Goals as goal

pub returns : goal.returns
unfolding in_domain
returns c = simp (c.finite_not_below_zero.ensures, c.finite_not_below_zero-2.ensures, c.finite_not_below_zero-3.ensures, c.more_than_one_zero.ensures)
