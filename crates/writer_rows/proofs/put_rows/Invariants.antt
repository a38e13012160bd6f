-- `writer_rows::put_rows` meets its contract: the rows of the blocks so far are written, and none of their stations is refused. Assumes nothing.
use mathlib.Core.Path.{◌≡◌}
use Prim.Native.Nat.{◌-◌, ◌≤◌}
use lib.ListN.{length}
use Rattle.sheet.specs.Input.{source_input, station_count}
use Rattle.writer_rows.specs.Rows.{RowsUpTo}
use Rattle.writer_rows.proofs.put_rows.Given as goal

abbrev pub invariant-loop-first : goal.invariant-loop-first
invariant-loop-first l =
    let s = source_input l.source in
    (l.first ≤ l.total) × (l.total ≡ station_count s) × (length l.out ≡ length l.initial.out) × RowsUpTo s l.at l.first l.initial.out l.out

abbrev pub decreases-loop-first : goal.decreases-loop-first
decreases-loop-first l = l.total - l.first
