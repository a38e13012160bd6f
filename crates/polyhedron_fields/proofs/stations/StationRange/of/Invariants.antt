-- `polyhedron_fields::stations::StationRange::of` meets its contract: before turn j the places of j stations are read. Assumes nothing.
use Rattle.std.proofs.Common.{◌≡◌, ◌+◌, ◌<◌, ℕ, get_or}
use Rattle.mesh.specs.Surface.{vertex}
use Rattle.polyhedron_blocks.specs.Blocks.{no_vector}
use Rattle.polyhedron_fields.proofs.stations.StationRange.of.Given as goal

abbrev pub invariant-loop-j : goal.invariant-loop-j
invariant-loop-j l = (i : ℕ) → i < l.j → get_or l.place-items i no_vector ≡ vertex l.stations (l.first + i)
