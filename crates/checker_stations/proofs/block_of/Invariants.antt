-- `checker_stations::block_of` meets its contract: before turn j, j stations are in their places. Assumes nothing.
use Rattle.std.proofs.Common.{◌≡◌, ◌+◌, ◌<◌, ℕ, get_or}
use Rattle.mesh.specs.Surface.{vertex}
use Rattle.polyhedron_blocks.specs.Blocks.{no_vector}
use Rattle.sheet.specs.Checker.{parse}
use Rattle.checker_stations.proofs.block_of.Given as goal

abbrev pub invariant-loop-j : goal.invariant-loop-j
invariant-loop-j l = (i : ℕ) → i < l.j → get_or l.place-items i no_vector ≡ vertex (parse l.sheet.bytes.now).stations (l.first + i)
