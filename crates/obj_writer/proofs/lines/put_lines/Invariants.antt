-- `obj_writer::lines::put_lines` meets its contract: the lines of the chunks so far are written. Assumes nothing.
use Rattle.std.proofs.Common.{length}
use Rattle.obj.specs.Writer.{written}
use Rattle.obj_numerals.specs.Put.{Put}
use Rattle.obj_writer.specs.Lines.{line_at}
use Rattle.obj_writer.proofs.Chunks.{Behind}
use Rattle.obj_writer.proofs.lines.put_lines.Given as goal

abbrev pub invariant-loop-line : goal.invariant-loop-line
invariant-loop-line g l = record {
  behind : Behind l.numbers (length l.yielded) l.line-iterator;
  text : Put l.initial.cursor l.cursor (written (length l.yielded) (line_at l.letter g.T.Field.text l.numbers));
}
