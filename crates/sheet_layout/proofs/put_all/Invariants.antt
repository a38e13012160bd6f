-- `sheet_layout::put_all` meets its contract: so far, the first i numbers are written. Assumes nothing.
use mathlib.Core.Path.{◌≡◌}
use mathlib.Core.List.{map}
use lib.ListN.{take}
use lib.Seq.{sets}
use Rattle.sheet_layout.specs.LittleEndian.{pack}
use Rattle.sheet_layout.proofs.put_all.Given as goal

abbrev pub invariant-loop-i : goal.invariant-loop-i
invariant-loop-i g l = l.s ≡ sets l.initial.s l.at (pack g.T.Stored.SIZE (take l.i (map g.T.Stored.as_number l.xs)))
