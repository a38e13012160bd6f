-- `special::carlson_rj` meets its contract. Assumes nothing.
use Rattle.special.specs.Domain.{carlson_rj}
use Rattle.special.proofs.carlson_rj.Goals as goal

pub returns-then-in_domain-is_finite : goal.returns-then-in_domain-is_finite
unfolding carlson_rj
returns-then-in_domain-is_finite c = simp (← c.in_domain.ensures, ← c.is_finite.ensures, c.if-in_domain-is_finite.true, c.rj.ensures)

pub returns : goal.returns
unfolding carlson_rj
returns c = simp (← c.in_domain.ensures, ← c.is_finite.ensures, c.if-in_domain-is_finite.false)
