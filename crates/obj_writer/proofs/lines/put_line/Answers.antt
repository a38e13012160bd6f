-- `obj_writer::lines::put_line` meets its contract: the numbers so far are written. Assumes nothing.
use Rattle.std.proofs.Math.Seq.{take_all}
use Rattle.obj_numerals.proofs.Puts.{put_then, put_rest}
use Rattle.obj_writer.proofs.Fields.{field_room, put_field}
use Rattle.obj_writer.proofs.lines.put_line.Goals as goal

pub put-requires-in-loop-number-2-clause-room : goal.put-requires-in-loop-number-2-clause-room
put-requires-in-loop-number-2-clause-room g c =
    let l = c.loop-number in
    put_rest c.put-in-loop-number.ensures _
    (field_room g.T.Field.text c.args.numbers.now l.number-index c.args.letter l.invariant c.number-item.result c.loop-number-test.true c.number-item.is c.requires.room)

pub loop-number-preserved : goal.loop-number-preserved
loop-number-preserved g c =
    let l = c.loop-number in
    put_field g.T.Field.text c.args.numbers.now l.number-index c.args.letter l.invariant c.number-item.result c.loop-number-test.true c.number-item.is
    c.put-in-loop-number.ensures c.put-in-loop-number-2.ensures

pub returns : goal.returns
returns g c =
    let all = take_all c.loop-number.number-index c.args.numbers.now c.loop-number-test.false in
    put_then (rw all at c.loop-number.invariant) c.put-2.ensures
