-- `writer_rows::put_block` meets its contract: before turn j the rows of j more stations are written, and none of them is refused. Assumes nothing.
use mathlib.Core.Path.{◌≡◌}
use mathlib.Core.List.{List}
use Prim.Native.Nat.{ℕ, ◌+◌, ◌*◌}
use lib.ListN.{length}
use Rattle.sheet_rows.specs.Kinds.{row_width}
use Rattle.sheet.specs.Input.{source_input}
use Rattle.writer_rows.specs.Rows.{FieldsAt, RowsUpTo}
use Rattle.writer_rows.proofs.put_block.Given as goal

abbrev pub invariant-loop-j : goal.invariant-loop-j
invariant-loop-j l =
    let s = source_input l.source in
    (l.length ≡ 8 * row_width s.kind) × (length l.out ≡ length l.initial.out)
    × ((o : List ℕ) → FieldsAt s.kind l.stations.first l.stations.n s.vertices s.faces s.stations l.fn.fields → RowsUpTo s l.at l.stations.first o l.initial.out → RowsUpTo s l.at (l.stations.first + l.j) o l.out)
