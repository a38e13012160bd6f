-- `special::carlson_rf` meets its contract. Assumes nothing.
use Rattle.special.specs.Domain.{carlson_rf}
use Rattle.special.proofs.carlson_rf.Goals as goal

pub returns-then-in_domain : goal.returns-then-in_domain
unfolding carlson_rf
returns-then-in_domain c = simp (← c.in_domain.ensures, c.if-in_domain.true, c.rf.ensures)

pub returns : goal.returns
unfolding carlson_rf
returns c = simp (← c.in_domain.ensures, c.if-in_domain.false)
