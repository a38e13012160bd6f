-- `obj_numerals::cursor::Cursor::put_digits` meets its contract: the digits that are left, stored from the cursor's place on, give the text that is wanted. Assumes nothing.
use Rattle.std.proofs.Common.{◌≡◌, ◌-◌}
use Rattle.std.proofs.lemmas.List.Edits.{sets}
use Rattle.obj_numerals.specs.Digits.{digits}
use Rattle.obj_numerals.proofs.cursor.Cursor.put_digits.Given as goal

abbrev pub invariant-loop-i : goal.invariant-loop-i
invariant-loop-i l =
    let c = l.initial.self in
    record {
      same : l.self.text.ghost_name ≡ c.text.ghost_name;
      at : l.self.at ≡ c.at;
      text : sets l.self.text.now c.at (digits (l.i - c.at) l.rest) ≡ sets c.text.now c.at (digits l.size l.n);
    }
