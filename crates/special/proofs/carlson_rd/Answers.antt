-- `special::carlson_rd` meets its contract. Assumes nothing.
use Rattle.special.specs.Domain.{carlson_rd}
use Rattle.special.proofs.carlson_rd.Goals as goal

pub returns-then-in_domain-z : goal.returns-then-in_domain-z
unfolding carlson_rd
returns-then-in_domain-z c = simp (← c.in_domain.ensures, c.if-in_domain-z.true, c.rd.ensures)

pub returns : goal.returns
unfolding carlson_rd
returns c = simp (← c.in_domain.ensures, c.if-in_domain-z.false)
