-- `sheet_layout::read_all` meets its contract: so far, the first i numbers are read. Assumes nothing.
use mathlib.Core.Path.{◌≡◌}
use mathlib.Core.List.{map}
use lib.Seq.{sets}
use Rattle.sheet_layout.specs.LittleEndian.{unpack}
use Rattle.sheet_layout.proofs.read_all.Given as goal

abbrev pub invariant-loop-i : goal.invariant-loop-i
invariant-loop-i g l = l.xs ≡ sets l.initial.xs 0 (map g.T.Stored.of_number (unpack g.T.Stored.SIZE l.i l.s l.at))
