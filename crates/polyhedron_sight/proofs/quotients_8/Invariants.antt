-- `polyhedron_sight::quotients_8` meets its contract. Assumes nothing.
use Rattle.lanes.proofs.Filling.{Filled}
use Rattle.polyhedron_sight.specs.Seen.{triple_of, denominator_of}
use Rattle.polyhedron_sight.proofs.quotients_8.Given as goal

abbrev pub invariant-loop-k : goal.invariant-loop-k
invariant-loop-k l = Filled 8 (triple_of l.corners) l.initial.s l.k l.s × Filled 8 (denominator_of l.corners) l.initial.c l.k l.c
