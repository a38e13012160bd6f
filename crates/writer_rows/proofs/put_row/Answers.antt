-- `writer_rows::put_row` meets its contract. Assumes nothing.
use Rattle.std.proofs.lemmas.Result.{err_from_is_err_and}
use mathlib.Core.Path.{◌≡◌, refl, sym, ap, ◌∙◌}
use mathlib.Core.Bool.{true, false}
use mathlib.Core.List.{List}
use lib.Seq.{sets}
use lib.Ieee.{Float}
use Rattle.sheet_layout.specs.LittleEndian.{pack, bits}
use Rattle.sheet.specs.Input.{row_at, source_input}
use Rattle.sheet.specs.Bytes.{numbers_of}
use Rattle.writer_rows.proofs.RowLaws.{of_row, of_refused, row_is}
use Rattle.writer_rows.proofs.put_row.Goals as goal

pub returns-in_err-row : goal.returns-in_err-row
returns-in_err-row c =
    λ h.
    let a = c.args in
    let s = source_input a.source.now in
    let answered : c.row_of.result ≡ row_at s a.i = c.row_of.ensures ∙ row_is s.kind a.i s.magnetisation s.ambient s.vertices s.faces s.stations _ h in
    let p = err_from_is_err_and c.from_residual.result c.from_residual.ensures.1 in
    rw (p.1, p.2) (record { cause = of_refused s a.i _ (sym c.in_err-row.was ∙ answered); bytes = refl })

pub returns-then-not-is_finite_row : goal.returns-then-not-is_finite_row
returns-then-not-is_finite_row c =
    λ h.
    let a = c.args in
    let s = source_input a.source.now in
    let answered : c.row_of.result ≡ row_at s a.i = c.row_of.ensures ∙ row_is s.kind a.i s.magnetisation s.ambient s.vertices s.faces s.stations _ h in
    record {
      cause = of_row s a.i c.in_ok-row.row false (sym c.in_ok-row.was ∙ answered) (sym c.is_finite_row.ensures ∙ c.if-not-is_finite_row.true);
      bytes = refl;
    }

pub returns : goal.returns
returns c =
    λ h.
    let a = c.args in
    let s = source_input a.source.now in
    let answered : c.row_of.result ≡ row_at s a.i = c.row_of.ensures ∙ row_is s.kind a.i s.magnetisation s.ambient s.vertices s.faces s.stations _ h in
    let given = sym c.in_ok-row.was ∙ answered in
    record {
      cause = of_row s a.i c.in_ok-row.row true given (sym c.is_finite_row.ensures ∙ c.if-not-is_finite_row.false);
      bytes = c.put_f64s.ensures ∙ ap (λ (xs : List Float). sets a.out.now a.at (pack 8 (bits xs))) (c.row_numbers-numbers.ensures ∙ ap (numbers_of s) given);
    }
