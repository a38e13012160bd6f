-- `checker_stations::check_station` meets its contract: the causes 10 or 11, 13 and 20. Assumes nothing.
use Rattle.std.specs.Prelude.{Ok}
use Rattle.std.proofs.lemmas.Result.{err_from_is_err_and}
use mathlib.Core.Path.{◌≡◌, sym, ap, ◌∙◌}
use Prim.Native.Nat.{ℕ}
use Rattle.sheet_rows.specs.Row.{in_row, row_cause}
use Rattle.sheet.specs.Input.{row_at}
use Rattle.sheet.specs.Checker.{kind_in, parse}
use Rattle.checker_stations.proofs.Station.{read_magnetisation, read_ambient, row_is, no_row, refused-by, same_bits, other-bits}
use Rattle.checker_stations.proofs.check_station.Goals as goal

pub returns-in_err-row : goal.returns-in_err-row
returns-in_err-row c =
    let a = c.args in
    let h = c.requires in
    let computed : c.row_of.result ≡ row_at (parse a.sheet.bytes.now) a.i = c.row_of.ensures ∙ ap (λ (k : ℕ). in_row k a.sheet.trailer.magnetisation a.sheet.trailer.ambient a.field) a.sheet.read.kind ∙ row_is a.sheet.bytes.now a.i _ _ _ (read_magnetisation _ a.sheet.read) (read_ambient _ a.sheet.read) h.1 in
    let p = err_from_is_err_and c.from_residual.result c.from_residual.ensures.1 in
    rw (p.1, p.2) (no_row a.sheet.bytes.now a.i _ (sym c.in_err-row.was ∙ computed))

pub returns-in_err-row_cause : goal.returns-in_err-row_cause
returns-in_err-row_cause c =
    let a = c.args in
    let h = c.requires in
    let computed : c.row_of.result ≡ row_at (parse a.sheet.bytes.now) a.i = c.row_of.ensures ∙ ap (λ (k : ℕ). in_row k a.sheet.trailer.magnetisation a.sheet.trailer.ambient a.field) a.sheet.read.kind ∙ row_is a.sheet.bytes.now a.i _ _ _ (read_magnetisation _ a.sheet.read) (read_ambient _ a.sheet.read) h.1 in
    let caused : row_cause (kind_in a.sheet.bytes.now) a.i (Ok c.in_ok-row.row) ≡ c.row_cause.result = ap (λ (k : ℕ). row_cause k a.i (Ok c.in_ok-row.row)) (sym a.sheet.read.kind) ∙ sym c.row_cause.ensures in
    let p = err_from_is_err_and c.from_residual-in_err-row_cause.result c.from_residual-in_err-row_cause.ensures.1 in
    rw (p.1, p.2) (refused-by a.sheet.bytes.now a.i _ (sym c.in_ok-row.was ∙ computed) _ (caused ∙ c.in_err-row_cause.was))

pub returns-then-same_row : goal.returns-then-same_row
returns-then-same_row c =
    let a = c.args in
    let h = c.requires in
    let computed : c.row_of.result ≡ row_at (parse a.sheet.bytes.now) a.i = c.row_of.ensures ∙ ap (λ (k : ℕ). in_row k a.sheet.trailer.magnetisation a.sheet.trailer.ambient a.field) a.sheet.read.kind ∙ row_is a.sheet.bytes.now a.i _ _ _ (read_magnetisation _ a.sheet.read) (read_ambient _ a.sheet.read) h.1 in
    let caused : row_cause (kind_in a.sheet.bytes.now) a.i (Ok c.in_ok-row.row) ≡ c.row_cause.result = ap (λ (k : ℕ). row_cause k a.i (Ok c.in_ok-row.row)) (sym a.sheet.read.kind) ∙ sym c.row_cause.ensures in
    same_bits a.sheet.bytes.now a.i _ (sym c.in_ok-row.was ∙ computed) (caused ∙ c.in_ok-row_cause.was)
    (simp (a.sheet.read.kind, c.row_start.ensures) at (sym c.same_row.ensures ∙ c.if-same_row.true))

pub returns : goal.returns
returns c =
    let a = c.args in
    let h = c.requires in
    let computed : c.row_of.result ≡ row_at (parse a.sheet.bytes.now) a.i = c.row_of.ensures ∙ ap (λ (k : ℕ). in_row k a.sheet.trailer.magnetisation a.sheet.trailer.ambient a.field) a.sheet.read.kind ∙ row_is a.sheet.bytes.now a.i _ _ _ (read_magnetisation _ a.sheet.read) (read_ambient _ a.sheet.read) h.1 in
    let caused : row_cause (kind_in a.sheet.bytes.now) a.i (Ok c.in_ok-row.row) ≡ c.row_cause.result = ap (λ (k : ℕ). row_cause k a.i (Ok c.in_ok-row.row)) (sym a.sheet.read.kind) ∙ sym c.row_cause.ensures in
    other-bits a.sheet.bytes.now a.i _ (sym c.in_ok-row.was ∙ computed) (caused ∙ c.in_ok-row_cause.was)
    (simp (a.sheet.read.kind, c.row_start.ensures) at (sym c.same_row.ensures ∙ c.if-same_row.false))
