-- `checker::check_sheet` meets its contract: the answer is that of the first cause, and what is accepted is right. Assumes nothing.
use Rattle.std.specs.Prelude.{Ok}
use Rattle.std.proofs.lemmas.Result.{err_from_is_err_and}
use mathlib.Core.Path.{◌≡◌, sym, ap, ◌∙◌}
use native.Mathlib.Omega.{arith}
use Rattle.sheet.specs.Checker.{verdict_answer, check_sheet}
use Rattle.sheet_laws.specs.Demand3.{accepted-right}
use Rattle.checker.proofs.Staged.{opening_refused, found, refusing, accepting}
use Rattle.checker.proofs.check_sheet.Goals as goal

pub returns-in_err-opened : goal.returns-in_err-opened
returns-in_err-opened c =
    let b = c.args.sheet.now in
    let e = refusing b _ (opening_refused b _ c.in_err-opened.ensures) in
    let p = err_from_is_err_and c.from_residual.result c.from_residual.ensures.1 in
    rw (p.1, p.2) (record { result_value = e; by_index = λ k n q. accepted-right b (λ i. omega (arith, c.type_inv.sheet i)) k n (sym e ∙ ap verdict_answer q) })

pub returns-in_err-in_smallest_room : goal.returns-in_err-in_smallest_room
returns-in_err-in_smallest_room c =
    let b = c.args.sheet.now in
    let o = c.in_ok-opened.ensures in
    let e = refusing b _ (found b o.1 (rw o.0 at (sym c.in_smallest_room.ensures ∙ c.in_err-in_smallest_room.was))) in
    let p = err_from_is_err_and c.from_residual-in_err-in_smallest_room.result c.from_residual-in_err-in_smallest_room.ensures.1 in
    rw (p.1, p.2) (record { result_value = e; by_index = λ k n q. accepted-right b (λ i. omega (arith, c.type_inv.sheet i)) k n (sym e ∙ ap verdict_answer q) })

pub returns : goal.returns
returns c =
    let b = c.args.sheet.now in
    let o = c.in_ok-opened.ensures in
    let s = c.in_ok-opened.opened in
    let none = found b o.1 (rw o.0 at (sym c.in_smallest_room.ensures ∙ c.in_ok-in_smallest_room.was)) in
    let e : verdict_answer (Ok (record { kind = s.trailer.kind; stations = s.trailer.stations })) ≡ check_sheet b = rw (s.read.kind, s.read.stations, o.0) (accepting b none) in
    record { result_value = e; by_index = λ k n q. accepted-right b (λ i. omega (arith, c.type_inv.sheet i)) k n (sym e ∙ ap verdict_answer q) }
