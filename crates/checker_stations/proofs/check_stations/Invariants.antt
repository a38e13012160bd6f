-- `checker_stations::check_stations` meets its contract: none of the stations of the blocks so far is refused. Assumes nothing.
use mathlib.Core.Path.{◌≡◌}
use Prim.Native.Nat.{◌-◌, ◌≤◌}
use Rattle.refusals.specs.Causes.{first_of}
use Rattle.std.specs.Prelude.{Ok}
use Rattle.sheet.specs.Checker.{parse, check_station}
use Rattle.checker_stations.proofs.check_stations.Given as goal

abbrev pub invariant-loop-first : goal.invariant-loop-first
invariant-loop-first l = (l.first ≤ l.total) × (first_of l.first (check_station l.sheet.bytes.now (parse l.sheet.bytes.now)) ≡ Ok tt)

abbrev pub decreases-loop-first : goal.decreases-loop-first
decreases-loop-first l = l.total - l.first
