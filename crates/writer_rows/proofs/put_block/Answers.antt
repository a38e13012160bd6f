-- `writer_rows::put_block` meets its contract: before turn j the rows of j more stations are written, and none of them is refused. Assumes nothing.
use Rattle.std.proofs.lemmas.Result.{err_from_is_err_and}
use mathlib.Core.Path.{◌≡◌, sym, ap, ◌∙◌, subst}
use Prim.Native.Nat.{ℕ, ◌+◌, ◌*◌}
use native.Mathlib.Omega.{arith}
use Rattle.std.proofs.Common.{◌<◌, length-take, get_or-take}
use Rattle.polyhedron_fields.specs.BlockFields.{no_field}
use Rattle.refusals.proofs.Causes.{more}
use Rattle.sheet_rows.specs.Kinds.{row_width}
use Rattle.sheet.specs.Input.{source_input}
use Rattle.sheet.specs.Writer.{station_cause}
use Rattle.writer_rows.specs.Rows.{RowsUpTo}
use Rattle.writer_rows.proofs.RowLaws.{not_none, next, row_written, row-left, up_to-refused}
use Rattle.writer_rows.proofs.put_block.Goals as goal

pub returns-in_err-put_row : goal.returns-in_err-put_row
returns-in_err-put_row c =
    let inside : c.loop-j.j < c.args.stations.now.n = omega (arith, length-take c.args.stations.now.n c.args.fields) in
    let a = c.args in
    let i = a.stations.now.first + c.loop-j.j in
    let r = c.in_err-put_row.field-0.0 in
    let told = c.in_err-put_row.was in
    let p = err_from_is_err_and c.from_residual.result c.from_residual.ensures.1 in
    λ o q u.
    let s = source_input a.source.now in
    let w = c.loop-j.invariant.2 o q u in
    let h = c.put_row.ensures (get_or-take a.stations.now.n a.fields c.loop-j.j no_field inside ∙ q.at c.loop-j.j inside) in
    rw (p.1, p.2) (record {
      on = λ z. absurd (not_none r z);
      over = λ x e l. up_to-refused s o a.at i r (omega arith) w.none (sym h.cause ∙ told) (row-left s i _ h r told ∙ w.bytes);
    })

pub loop-j-preserved : goal.loop-j-preserved
loop-j-preserved c =
    let inside : c.loop-j.j < c.args.stations.now.n = omega (arith, length-take c.args.stations.now.n c.args.fields) in
    let a = c.args in
    let i = a.stations.now.first + c.loop-j.j in
    let place : c.row_length-length.result * i ≡ 8 * row_width a.source.now.kind * i = ap (λ (x : ℕ). x * i) c.loop-j.invariant.0 in
    let told = c.in_ok-put_row.was in (
      c.loop-j.invariant.0,
      omega (arith, c.loop-j.invariant.1),
      λ o q u.
          let s = source_input a.source.now in
          let w = c.loop-j.invariant.2 o q u in
          let h = c.put_row.ensures (get_or-take a.stations.now.n a.fields c.loop-j.j no_field inside ∙ q.at c.loop-j.j inside) in
          let z : i + 1 ≡ a.stations.now.first + (c.loop-j.j + 1) = omega arith in
          subst (λ (k : ℕ). RowsUpTo s a.at k o c.put_row.new.out) z
          (record {
            none = more i (station_cause s) w.none (sym h.cause ∙ told);
            bytes = next s i w.none o a.at (a.at + c.row_length-length.result * i) (ap (λ (x : ℕ). a.at + x) place) w.bytes (row_written s i _ h told);
          }),
    )
