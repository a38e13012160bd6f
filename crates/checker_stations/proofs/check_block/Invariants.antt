-- `checker_stations::check_block` meets its contract: none of the stations so far is refused. Assumes nothing.
use mathlib.Core.Path.{◌≡◌}
use Prim.Native.Nat.{◌+◌}
use Rattle.refusals.specs.Causes.{first_of}
use Rattle.std.specs.Prelude.{Ok}
use Rattle.sheet.specs.Checker.{parse, check_station}
use Rattle.checker_stations.proofs.check_block.Given as goal

abbrev pub invariant-loop-j : goal.invariant-loop-j
invariant-loop-j l = first_of l.j (λ i. check_station l.sheet.bytes.now (parse l.sheet.bytes.now) (l.block.first + i)) ≡ Ok tt
