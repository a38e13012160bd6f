-- `doubles::min` meets its contract. Assumes nothing.
use Rattle.doubles.specs.Magnitude.{min}
use Rattle.doubles.proofs.min.Goals as goal

pub returns-then-is_nan-y : goal.returns-then-is_nan-y
unfolding min
returns-then-is_nan-y c = simp (← c.is_nan.ensures.value, c.if-is_nan-y.true)

pub returns-else-is_nan-y : goal.returns-else-is_nan-y
unfolding min
returns-else-is_nan-y c = simp (← c.is_nan.ensures.value, c.if-is_nan-y.false)
