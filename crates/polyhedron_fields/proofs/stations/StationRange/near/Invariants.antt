-- `polyhedron_fields::stations::StationRange::near` meets its contract: before turn j what is told of j stations is in its place. Assumes nothing.
use Rattle.std.proofs.Common.{◌≡◌, ◌<◌, ℕ, false, get_or}
use Rattle.polyhedron_blocks.specs.Blocks.{no_vector}
use Rattle.polyhedron_fields.specs.Walked.{is_near}
use Rattle.polyhedron_fields.proofs.stations.StationRange.near.Given as goal

abbrev pub invariant-loop-j : goal.invariant-loop-j
invariant-loop-j l = (i : ℕ) → i < l.j → get_or l.is_near-items i false ≡ is_near (get_or l.self.places i no_vector) l.center.centroid l.center.radius
