-- The public call of Bulirsch's cel: refused by 14 unless all arguments are finite and p > 0. Definitions only.
use Rattle.std.specs.Prelude.{Bool, ◌&&◌, Float}
use Rattle.std.specs.Float.Ieee.{lt}
use Rattle.std.specs.Float.Ieee.Scale.{finite}
use Rattle.doubles.specs.Constants.{0·0}
use Rattle.refusals.specs.Causes.{unless}
use Rattle.std.specs.Prelude.{Ok}
use Rattle.refusals.specs.Answer.{Answer, or_answer}
use Rattle.refusals.specs.declared.Refusal.TheVariants.{OutsideDomain}
use Rattle.special_bulirsch.specs.Bulirsch.{cel_of}

unfoldable pub four_finite : Float → Float → Float → Float → Bool
four_finite kc p a b = finite kc && finite p && finite a && finite b

unfoldable pub cel : Float → Float → Float → Float → Answer Float
cel kc p a b = or_answer (unless (four_finite kc p a b && lt 0·0 p) OutsideDomain) (Ok (cel_of kc p a b))
