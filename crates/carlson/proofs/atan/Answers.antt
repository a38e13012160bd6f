-- `carlson::atan` meets its contract. Assumes nothing.
use mathlib.Core.Path.{sym, ◌∙◌}
use lib.Ieee.{is_nan}
use Rattle.doubles.proofs.Signs.{ne_self, is-nan}
use Rattle.carlson.specs.Arctangent.{atan_by, atan}
use Rattle.carlson.proofs.atan.Goals as goal

pub returns-then-z : goal.returns-then-z
unfolding atan_by atan is_nan
returns-then-z c = rw (is-nan c.args.z c.if-z.true)

pub returns-then-abs : goal.returns-then-abs
unfolding atan_by atan
returns-then-abs c =
    let z = c.args.z in
    rw c.atan_within.ensures (simp (sym (ne_self z) ∙ c.if-z.false, ← c.abs.ensures, c.if-abs.true))

pub returns : goal.returns
unfolding atan_by atan
returns c =
    let z = c.args.z in
    rw (c.with_sign.ensures, c.atan_within-2.ensures) (simp (sym (ne_self z) ∙ c.if-z.false, ← c.abs.ensures, c.if-abs.false))
