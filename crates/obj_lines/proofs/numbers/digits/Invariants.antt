-- `obj_lines::numbers::digits` meets its contract: the bytes so far are digits, and those that are left make what all make.
use Rattle.std.proofs.Common.{◌≡◌, ◌%◌, ◌^◌, true, take, drop}
use Rattle.std.specs.List.{fold, list_all}
use Rattle.obj.specs.Decimal.{is_digit, with_digit}
use Rattle.obj_lines.proofs.numbers.digits.Given as goal

abbrev pub invariant-loop-b : goal.invariant-loop-b
invariant-loop-b l = record {
  digits : list_all is_digit (take l.b-index l.text) ≡ true;
  whole : fold with_digit l.whole (drop l.b-index l.text) % 2 ^ 64 ≡ fold with_digit l.behind l.text % 2 ^ 64;
}
