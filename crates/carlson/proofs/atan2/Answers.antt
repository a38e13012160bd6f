-- `carlson::atan2` meets its contract. Assumes nothing.
use mathlib.Core.Path.{sym, ◌∙◌}
use lib.Ieee.{is_nan}
use Rattle.doubles.proofs.Signs.{ne_self, is-nan}
use Rattle.carlson.specs.Arctangent.{atan2_by, atan2}
use Rattle.carlson.proofs.Quadrants.{s_zero, s_itself, c_zero, left, right}
use Rattle.carlson.proofs.atan2.Goals as goal

pub returns-then-s : goal.returns-then-s
unfolding atan2_by atan2 is_nan
returns-then-s c = rw (is-nan c.args.s c.if-s.true)

pub returns-then-c : goal.returns-then-c
unfolding atan2_by atan2 is_nan
returns-then-c c = rw (is-nan c.args.c c.if-c.true) (simp (sym (ne_self c.args.s) ∙ c.if-s.false))

pub returns-then-is_sign_negative : goal.returns-then-is_sign_negative
returns-then-is_sign_negative c = c.with_sign.ensures ∙ s_zero _ _ c.if-s.false c.if-c.false c.if-s-2.true (sym c.is_sign_negative.ensures ∙ c.if-is_sign_negative.true)

pub returns-then-s-2 : goal.returns-then-s-2
returns-then-s-2 c = s_itself _ _ c.if-s.false c.if-c.false c.if-s-2.true (sym c.is_sign_negative.ensures ∙ c.if-is_sign_negative.false)

pub returns-then-c-2 : goal.returns-then-c-2
returns-then-c-2 c = c.with_sign-then-c-2.ensures ∙ c_zero _ _ c.if-s.false c.if-c.false c.if-s-2.false c.if-c-2.true

pub returns-then-c-3 : goal.returns-then-c-3
returns-then-c-3 c =
    rw (c.with_sign-then-c-3.ensures, c.atan-a.ensures)
    (left _ _ c.if-s.false c.if-c.false c.if-s-2.false c.if-c-2.false c.if-c-3.true)

pub returns : goal.returns
returns c = c.atan-a.ensures ∙ right _ _ c.if-s.false c.if-c.false c.if-s-2.false c.if-c-2.false c.if-c-3.false
