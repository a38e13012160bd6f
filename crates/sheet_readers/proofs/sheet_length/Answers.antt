-- `sheet_readers::sheet_length` meets its contract. Assumes nothing.
use mathlib.Core.Path.{sym, ◌∙◌}
use Prim.Native.Nat.{◌≤◌}
use native.Mathlib.Omega.{arith}
use borrow.Author.Tests.{not-true, not-false}
use Rattle.mesh_orders.specs.Edges.{max_vertices, max_faces, max_stations}
use Rattle.sheet_rows.proofs.Counts.{counts_each}
use Rattle.sheet_rows.proofs.KindLaws.{rows_few}
use Rattle.sheet_readers.specs.Parts.{length_of}
use mathlib.Core.Bool.{not}
use mathlib.Core.Path.{ap}
use Rattle.sheet_readers.proofs.sheet_length.Goals as goal

pub returns-then-not-known_kind : goal.returns-then-not-known_kind
unfolding length_of
returns-then-not-known_kind c = rw (← c.known_kind.ensures, not-true c.known_kind.result (ap not c.if-not-known_kind.true))

pub returns-then-not-within_counts : goal.returns-then-not-within_counts
unfolding length_of
returns-then-not-within_counts c = rw (← c.known_kind.ensures, not-false c.known_kind.result (ap not c.if-not-known_kind.false), ← c.within_counts.ensures, not-true c.within_counts.result (ap not c.if-not-within_counts.true))

pub overflow_add-result : goal.overflow_add-result
overflow_add-result c =
    let counts : (c.args.vertices ≤ max_vertices) × (c.args.faces ≤ max_faces) × (c.args.stations ≤ max_stations) = counts_each c.args.vertices c.args.faces c.args.stations (sym c.within_counts.ensures ∙ c.if-not-within_counts.false) in
    let n = counts in
    omega (arith, n.0, n.1, rows_few c.args.kind 24 c.args.stations max_stations n.2, c.pointer_of.ensures)

pub returns : goal.returns
unfolding length_of
returns c = rw (← c.known_kind.ensures, not-false c.known_kind.result (ap not c.if-not-known_kind.false), ← c.within_counts.ensures, not-false c.within_counts.result (ap not c.if-not-within_counts.false), c.pointer_of.ensures)

pub overflow_cast-vertices : goal.overflow_cast-vertices
overflow_cast-vertices c =
    let counts : (c.args.vertices ≤ max_vertices) × (c.args.faces ≤ max_faces) × (c.args.stations ≤ max_stations) = counts_each c.args.vertices c.args.faces c.args.stations (sym c.within_counts.ensures ∙ c.if-not-within_counts.false) in
    let n = counts in omega (arith, n.0)

pub overflow_cast-faces : goal.overflow_cast-faces
overflow_cast-faces c =
    let counts : (c.args.vertices ≤ max_vertices) × (c.args.faces ≤ max_faces) × (c.args.stations ≤ max_stations) = counts_each c.args.vertices c.args.faces c.args.stations (sym c.within_counts.ensures ∙ c.if-not-within_counts.false) in
    let n = counts in omega (arith, n.1)

pub overflow_cast-stations : goal.overflow_cast-stations
overflow_cast-stations c =
    let counts : (c.args.vertices ≤ max_vertices) × (c.args.faces ≤ max_faces) × (c.args.stations ≤ max_stations) = counts_each c.args.vertices c.args.faces c.args.stations (sym c.within_counts.ensures ∙ c.if-not-within_counts.false) in
    let n = counts in omega (arith, n.2)
