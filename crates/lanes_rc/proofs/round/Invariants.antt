-- `lanes_rc::round` meets its contract. Assumes nothing.
use Prim.Native.Nat.{ℕ, ◌-◌}
use Rattle.lanes.proofs.Filling.{Filled}
use Rattle.lanes_rc.specs.LaneRounds.{after_one}
use Rattle.lanes_rc.proofs.round.Given as goal

abbrev pub invariant-loop-k : goal.invariant-loop-k
invariant-loop-k g l =
    (Filled g.row.N (λ (j : ℕ). (after_one l.q l.initial.x l.initial.y l.initial.a l.initial.f j).x) l.initial.x l.k l.x) × (Filled g.row.N (λ (j : ℕ). (after_one l.q l.initial.x l.initial.y l.initial.a l.initial.f j).y) l.initial.y l.k l.y)
    × (Filled g.row.N (λ (j : ℕ). (after_one l.q l.initial.x l.initial.y l.initial.a l.initial.f j).a) l.initial.a l.k l.a) × (Filled g.row.N (λ (j : ℕ). (after_one l.q l.initial.x l.initial.y l.initial.a l.initial.f j).f) l.initial.f l.k l.f)

abbrev pub decreases-loop-k : goal.decreases-loop-k
decreases-loop-k g l = g.row.N - l.k
