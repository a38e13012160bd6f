-- `obj_writer::write_obj` meets its contract: the causes 1 to 4, then 12, then the text. Assumes nothing.
use Rattle.std.proofs.Common.{rules, ◌≡◌, ℕ, ◌+◌, ◌≤◌, List, ◌++◌, length, drop, refl, sym, ap, ◌∙◌, arith, length-append}
use Rattle.std.proofs.lemmas.Result.{err_from_is_err_and}
use Rattle.std.specs.Float.{Float}
use Rattle.obj.specs.Text.{letter_f, letter_v}
use Rattle.obj.specs.Writer.{numeral, coordinate, text_of, text_after}
use Rattle.obj_numerals.proofs.Numerals.{coordinate_short, corner_short}
use Rattle.obj_numerals.proofs.Puts.{put_then, put_rest, put_front}
use Rattle.obj_writer.specs.Lines.{lines_text}
use Rattle.obj_writer.proofs.GivenCauses.{given_vertices, given_corners}
use Rattle.obj_writer.proofs.WrittenLines.{lines_high}
use Rattle.obj_writer.proofs.WholeText.{text_lines, refused, too_short, text_written}
use Rattle.obj_writer.proofs.write_obj.Goals as goal

-- the text's length, by its two parts
size : (v : List Float) (f : List ℕ) {m n : ℕ} → m ≡ length (lines_text letter_v coordinate v) → n ≡ length (lines_text letter_f (λ c. numeral (c + 1)) f) → m + n ≡ length (text_of v f)
size v f p q = omega (arith, p, q, ap length (text_lines v f), length-append (lines_text letter_v coordinate v) (lines_text letter_f (λ c. numeral (c + 1)) f))

pub returns-in_err-given_cause : goal.returns-in_err-given_cause
returns-in_err-given_cause c =
    let p = err_from_is_err_and c.from_residual.result c.from_residual.ensures.1 in
    let h = refused c.args.verts.now c.args.faces.now c.args.text.now (sym c.given_cause.ensures ∙ c.in_err-given_cause.was) in
    record { answer = rw (p.1, p.2) h.0; text = h.1 }

pub overflow_add-size : goal.overflow_add-size
overflow_add-size c =
    let none = sym c.given_cause.ensures ∙ c.in_ok-given_cause.was in
    let v = given_vertices c.args.verts.now c.args.faces.now none in
    let f = given_corners c.args.verts.now c.args.faces.now none in
    omega (
      arith,
      c.lines_size.ensures letter_v,
      c.lines_size-2.ensures letter_f,
      lines_high letter_v coordinate c.args.verts.now v.triples coordinate_short,
      lines_high letter_f (λ c. numeral (c + 1)) c.args.faces.now f.triples corner_short,
      v.few,
      f.few,
    )

pub returns-then-text-size : goal.returns-then-text-size
returns-then-text-size c =
    let e = size c.args.verts.now c.args.faces.now (c.lines_size.ensures letter_v) (c.lines_size-2.ensures letter_f) in
    let h = too_short c.args.verts.now c.args.faces.now c.args.text.now (sym c.given_cause.ensures ∙ c.in_ok-given_cause.was) (omega (arith, e, c.if-text-size.true)) in
    record { answer = h.0; text = h.1 }

pub put_lines-requires-2-clause-room : goal.put_lines-requires-2-clause-room
put_lines-requires-2-clause-room c =
    let a = lines_text letter_v coordinate c.args.verts.now in
    let b = lines_text letter_f (λ c. numeral (c + 1)) c.args.faces.now in
    put_rest c.put_lines.ensures b (omega (arith, c.if-text-size.false, c.lines_size.ensures letter_v, c.lines_size-2.ensures letter_f, length-append a b))

pub returns : goal.returns
returns c =
    let v = c.args.verts.now in
    let f = c.args.faces.now in
    let s = c.args.text.now in
    let e = size v f (c.lines_size.ensures letter_v) (c.lines_size-2.ensures letter_f) in
    let room : length (text_of v f) ≤ length s = omega (arith, e, c.if-text-size.false) in
    let put = put_then c.put_lines.ensures c.put_lines-2.ensures in
    let left : c.put_lines-2.new.cursor.text.now ≡ text_of v f ++ drop (length (text_of v f)) s = put_front (rw (← text_lines v f) at put) refl room in
    let h = text_written v f s (sym c.given_cause.ensures ∙ c.in_ok-given_cause.was) e (omega (arith, c.if-text-size.false)) left in
    record { answer = h.0; text = let w : c.put_lines-2.new.cursor.text.now ≡ text_after v f s = h.1 in search rules }
