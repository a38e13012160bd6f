-- `obj_lines::numbers::digits` meets its contract. Assumes nothing.
use Rattle.std.proofs.Common.{refl, sym, ◌∙◌, arith, eqb-true}
use Rattle.obj.specs.Decimal.{is_digit}
use Rattle.obj_lines.proofs.Values.{no_digits, stops, turn, ended, are_digits}
use Rattle.std.proofs.lemmas.List.Folds.{list_all_more}
use Rattle.obj_lines.proofs.numbers.digits.Goals as goal

pub returns-then-is_empty : goal.returns-then-is_empty
returns-then-is_empty c = no_digits c.args.text.now (eqb-true _ 0 (sym c.is_empty.ensures ∙ c.if-is_empty.true))

pub returns-then-not-is_ascii_digit : goal.returns-then-not-is_ascii_digit
returns-then-not-is_ascii_digit c =
    stops c.args.text.now c.loop-b.b-index c.loop-b-test.true (sym c.is_ascii_digit.ensures.value ∙ c.if-not-is_ascii_digit.true)

pub loop-b-preserved : goal.loop-b-preserved
loop-b-preserved c =
    let l = c.loop-b in
    record {
      digits = list_all_more is_digit c.args.text.now l.b-index 0 c.loop-b-test.true
          ∙ rw (l.invariant.digits, sym c.is_ascii_digit.ensures.value ∙ c.if-not-is_ascii_digit.false);
      whole = turn c.args.text.now l.b-index l.whole _ _ c.loop-b-test.true refl l.invariant.whole;
    }

pub returns : goal.returns
returns c =
    let l = c.loop-b in (
      are_digits c.args.text.now l.b-index (omega arith) (sym c.is_empty.ensures ∙ c.if-is_empty.false) l.invariant.digits,
      ended c.args.text.now l.b-index l.whole _ (omega arith) (omega arith) l.invariant.whole,
    )
