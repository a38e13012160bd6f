-- `obj_lines::numbers::split_point` meets its contract. Assumes nothing.
use Rattle.std.proofs.Common.{refl, sym, ◌∙◌}
use Rattle.obj_lines.proofs.Points.{no_point, stands_around}
use Rattle.obj_lines.proofs.numbers.split_point.Goals as goal

pub returns-in_err-at : goal.returns-in_err-at
returns-in_err-at c = rw c.from_residual.ensures (no_point c.args.text.now (sym c.find.ensures ∙ c.in_err-at.was))

pub returns : goal.returns
returns c = stands_around c.args.text.now _ _ c.in_ok-at.at (sym c.find.ensures ∙ c.in_ok-at.was) refl refl
