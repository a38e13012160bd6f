-- `obj_lines::fields::split_field` meets its contract. Assumes nothing.
use Rattle.std.proofs.Common.{refl, sym, ◌∙◌}
use Rattle.obj_lines.proofs.FirstField.{no_word, first_field}
use Rattle.obj_lines.proofs.fields.split_field.Goals as goal

pub returns-in_err-text : goal.returns-in_err-text
returns-in_err-text c = rw c.from_residual.ensures (no_word c.args.text.now (sym c.find_word.ensures ∙ c.in_err-text.was))

pub returns : goal.returns
returns c =
    first_field c.args.text.now _ c.in_ok-text.field-0 _ (sym c.find_word.ensures ∙ c.in_ok-text.was) refl
    (c.unwrap_or-end.ensures ∙ rw c.find.ensures) _ _ c.split_at.ensures.front c.split_at.ensures.back
