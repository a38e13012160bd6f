-- The line of an accepted sheet and of a refused one, as `answer_line` tells them apart.
use Rattle.recheck_line.specs.Line.{answer_line}
use Rattle.recheck_line.proofs.verdict_line.Goals as goal

pub returns-in-Ok : goal.returns-in-Ok
unfolding answer_line
returns-in-Ok c = rw c.in-Ok.is c.put_line.ensures

pub returns-in-Err : goal.returns-in-Err
unfolding answer_line
returns-in-Err c = rw (c.in-Err.is, ← c.number.ensures, ← c.place.ensures) c.put_line-in-Err.ensures
