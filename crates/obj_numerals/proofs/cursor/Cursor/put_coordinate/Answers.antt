-- `obj_numerals::cursor::Cursor::put_coordinate` meets its contract: after the minus there is room for the magnitude. Assumes nothing.
use Rattle.std.proofs.Common.{sym, ap, ◌∙◌}
use Rattle.obj.specs.Writer.{numeral}
use Rattle.obj_numerals.proofs.Puts.{put_rest, signed_coordinate, unsigned_coordinate}
use Rattle.obj_numerals.proofs.cursor.Cursor.put_coordinate.Goals.{then-is_sign_negative, else-is_sign_negative}
use Rattle.obj_numerals.proofs.cursor.Cursor.put_coordinate.Goals as goal

pub put_numeral-requires-clause-room : goal.put_numeral-requires-clause-room
put_numeral-requires-clause-room c =
    let n = sym (ap numeral c.magnitude.ensures.value) in
    elim c.if-is_sign_negative.branch [
      | then-is_sign_negative w ↦
          let e = signed_coordinate c.args.x (sym c.is_sign_negative.ensures ∙ w.if-is_sign_negative.true) in
          rw (w.self-is, ← n) (put_rest w.put.ensures _ (rw e at c.requires.room))
      | else-is_sign_negative w ↦
          let e = unsigned_coordinate c.args.x (sym c.is_sign_negative.ensures ∙ w.if-is_sign_negative.false) in
          rw (w.self-is, ← n) (rw e at c.requires.room)
    ]
