-- The line of the bytes that were read, or of a read that failed, as `input_line` tells them apart.
use Rattle.recheck_line.specs.Line.{input_line}
use Rattle.recheck_line.proofs.recheck_line.Goals as goal

pub returns-in-Some : goal.returns-in-Some
unfolding input_line
returns-in-Some c = rw c.in-Some.is c.bytes_line.ensures

pub returns-in-None : goal.returns-in-None
unfolding input_line
returns-in-None c = rw c.in-None.is c.verdict_line.ensures
