-- `checker_stations::place_of` meets its contract. Assumes nothing.
use mathlib.Core.Path.{ap, ◌∙◌}
use Rattle.sheet.specs.Checker.{vector_in}
use Rattle.checker_stations.proofs.Station.{place_is}
use Rattle.checker_stations.proofs.place_of.Goals as goal

pub returns : goal.returns
returns c =
    let b = c.args.sheet.bytes.now in
    place_is b c.args.i _ c.requires (c.vector_at.ensures ∙ ap (vector_in b) c.station_start.ensures)
