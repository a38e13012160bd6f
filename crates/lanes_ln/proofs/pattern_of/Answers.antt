-- `lanes_ln::pattern_of` meets its contract. Assumes nothing.
use mathlib.Core.Path.{ap}
use lib.Ieee.{binary64, to_bits}
use Rattle.lanes_ln.specs.LnLanes.{pattern_of}
use Rattle.lanes_ln.proofs.pattern_of.Goals as goal

pub returns : goal.returns
unfolding pattern_of
returns c = ap (to_bits binary64) c.pick.ensures
