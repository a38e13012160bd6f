-- `carlson::repeat` meets its contract: the rounds so far lead to the state, and what the rounds that are left lead to from there, all lead to from the start.
use Rattle.std.proofs.Common.{◌-◌, ◌≤◌}
use Rattle.carlson.specs.Rounds.{Steps, Rounds}
use Rattle.carlson.proofs.repeat.Given as goal

abbrev pub invariant-loop : goal.invariant-loop
invariant-loop g l = record {
  within : l.counter ≤ l.fn.max;
  made : Steps (goal.F-post g l.fn.step) l.fn.start l.counter l.s;
  left : (t : _) → Rounds (goal.T-post g l.fn.test) (goal.F-post g l.fn.step) (l.fn.max - l.counter) l.s t
      → Rounds (goal.T-post g l.fn.test) (goal.F-post g l.fn.step) l.fn.max l.fn.start t;
}
