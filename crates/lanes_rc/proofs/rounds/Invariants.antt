-- `lanes_rc::rounds` meets its contract. Assumes nothing.
use Rattle.lanes_rc.proofs.AllLanes.{Made}
use Rattle.lanes_rc.proofs.rounds.Given as goal

abbrev pub invariant-loop : goal.invariant-loop
invariant-loop g l = Made g.row.N l.q l.x l.y l.initial.a l.initial.f l.counter l.xx l.yy l.a l.f
