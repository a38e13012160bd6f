-- `obj_writer::lines::put_line` meets its contract: the numbers so far are written. Assumes nothing.
use Rattle.std.proofs.Common.{take}
use Rattle.obj_numerals.specs.Put.{Put}
use Rattle.obj_writer.specs.Lines.{line_text}
use Rattle.obj_writer.proofs.lines.put_line.Given as goal

abbrev pub invariant-loop-number : goal.invariant-loop-number
invariant-loop-number g l = Put l.fn.cursor l.cursor (line_text l.letter g.T.Field.text (take l.number-index l.numbers))
