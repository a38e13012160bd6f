-- `polyhedron_logarithms::ratios_8` meets its contract. Assumes nothing.
use Prim.Native.Nat.{◌+◌}
use Rattle.lanes.proofs.Filling.{Filled}
use Rattle.polyhedron_logarithms.specs.Seen.{ratio_of}
use Rattle.polyhedron_logarithms.proofs.ratios_8.Given as goal

abbrev pub invariant-loop-k : goal.invariant-loop-k
invariant-loop-k l = Filled 24 (ratio_of l.c l.e) l.initial.out (l.from + l.k) l.out
