-- `rings::RingStation::by_rho` meets its contract. Assumes nothing.
use Rattle.rings.specs.Ring.{∂ρ}
use Rattle.rings.proofs.RingStation.by_rho.Goals as goal

pub returns-then-rho : goal.returns-then-rho
unfolding ∂ρ
returns-then-rho c = simp c.if-rho.true

pub returns-then-rho-radius : goal.returns-then-rho-radius
unfolding ∂ρ
returns-then-rho-radius c = simp (c.if-rho.false, c.if-rho-radius.true, c.near_axis.ensures)

pub returns : goal.returns
unfolding ∂ρ
returns c = simp (c.if-rho.false, c.if-rho-radius.false, c.off_axis.ensures)
