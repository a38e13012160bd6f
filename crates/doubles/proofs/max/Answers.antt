-- `doubles::max` meets its contract. Assumes nothing.
use Rattle.doubles.specs.Magnitude.{max}
use Rattle.doubles.proofs.max.Goals as goal

pub returns-then-is_nan-x : goal.returns-then-is_nan-x
unfolding max
returns-then-is_nan-x c = simp (← c.is_nan.ensures.value, c.if-is_nan-x.true)

pub returns-else-is_nan-x : goal.returns-else-is_nan-x
unfolding max
returns-else-is_nan-x c = simp (← c.is_nan.ensures.value, c.if-is_nan-x.false)
