-- The public calls of R_F, R_D and R_J: refused by 14 outside their domains, and by 15 where a loop's test still holds after 64 rounds. Definitions only.
use Rattle.std.specs.Prelude.{Bool, not, ◌&&◌, ◌||◌, cond, Float}
use Rattle.std.specs.Float.Ieee.{lt, le, eq}
use Rattle.std.specs.Float.Ieee.Scale.{finite}
use Rattle.doubles.specs.Constants.{0·0}
use Rattle.refusals.specs.Causes.{unless}
use Rattle.refusals.specs.Answer.{Answer, or_answer}
use Rattle.refusals.specs.declared.Refusal.TheVariants.{OutsideDomain}
use Rattle.special_rf_rd.specs.Rf.{rf}
use Rattle.special_rf_rd.specs.Rd.{rd}
use Rattle.special_rj.specs.Rj.{rj}

unfoldable pub finite_not_below_zero : Float → Bool
finite_not_below_zero x = finite x && le 0·0 x

unfoldable pub more_than_one_zero : Float → Float → Float → Bool
more_than_one_zero x y z = cond (eq x 0·0) (eq y 0·0 || eq z 0·0) (eq y 0·0 && eq z 0·0)

unfoldable pub in_domain : Float → Float → Float → Bool
in_domain x y z = finite_not_below_zero x && finite_not_below_zero y && finite_not_below_zero z && not (more_than_one_zero x y z)

unfoldable pub carlson_rf : Float → Float → Float → Answer Float
carlson_rf x y z = or_answer (unless (in_domain x y z) OutsideDomain) (rf x y z)

unfoldable pub carlson_rd : Float → Float → Float → Answer Float
carlson_rd x y z = or_answer (unless (in_domain x y z && lt 0·0 z) OutsideDomain) (rd x y z)

unfoldable pub carlson_rj : Float → Float → Float → Float → Answer Float
carlson_rj x y z p = or_answer (unless (in_domain x y z && finite p) OutsideDomain) (rj x y z p)
