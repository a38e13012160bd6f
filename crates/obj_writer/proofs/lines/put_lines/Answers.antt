-- `obj_writer::lines::put_lines` meets its contract: the lines of the chunks so far are written. Assumes nothing.
use Rattle.std.proofs.Common.{◌/◌, ◌∷◌, [], length, length-append}
use Rattle.obj_writer.specs.Lines.{line_at}
use Rattle.obj_writer.proofs.Chunks.{chunk_turn}
use Rattle.obj_writer.proofs.WrittenLines.{line_room, put_more}
use Rattle.obj_writer.proofs.lines.put_lines.Goals as goal

pub put_line-requires-clause-room : goal.put_line-requires-clause-room
put_line-requires-clause-room g c =
    let l = c.loop-line in
    let n = c.args.numbers.now in
    let turn = chunk_turn n l.invariant.behind c.next.new.self c.in-Some.line c.in-Some.ensures.steps in
    rw turn.is (line_room (line_at c.args.letter g.T.Field.text n) (length l.yielded) l.invariant.text (length n / 3) turn.inside c.requires.room)

pub loop-line-preserved : goal.loop-line-preserved
loop-line-preserved g c =
    let l = c.loop-line in
    let n = c.args.numbers.now in
    let turn = chunk_turn n l.invariant.behind c.next.new.self c.in-Some.line c.in-Some.ensures.steps in
    let more = length-append l.yielded (c.in-Some.line ∷ []) in
    record {
      behind = rw more turn.next;
      text = rw more (put_more (line_at c.args.letter g.T.Field.text n) (length l.yielded) l.invariant.text (rw turn.is at c.put_line.ensures));
    }
