-- `checker_body::volume_cause` meets its contract. Assumes nothing.
use Rattle.std.proofs.lemmas.Result.{err_from_is_err_and}
use mathlib.Core.Path.{sym, ap₂, ◌∙◌}
use lib.Dec.{eqb}
use borrow.Author.Tests.{eq-eqb, ne_eqb}
use Rattle.checker_body.proofs.Solid.{refused-solid, other-volume, same-volume}
use Rattle.checker_body.proofs.volume_cause.Goals as goal

pub returns-in_err-computed : goal.returns-in_err-computed
returns-in_err-computed c =
    let p = err_from_is_err_and c.from_residual.result c.from_residual.ensures.1 in
    rw (p.1, p.2) (refused-solid c.args.body.sheet.bytes.now _ (sym c.in_err-computed.was ∙ c.check_solid.ensures))

pub returns-then-volume_bits-to_bits : goal.returns-then-volume_bits-to_bits
returns-then-volume_bits-to_bits c =
    other-volume c.args.body.sheet.bytes.now _ (sym c.in_ok-computed.was ∙ c.check_solid.ensures)
    (ap₂ eqb (sym c.volume_bits.ensures) (sym c.to_bits.ensures) ∙ ne_eqb _ _ c.if-volume_bits-to_bits.true)

pub returns : goal.returns
returns c =
    same-volume c.args.body.sheet.bytes.now _ (sym c.in_ok-computed.was ∙ c.check_solid.ensures)
    (ap₂ eqb (sym c.volume_bits.ensures) (sym c.to_bits.ensures) ∙ eq-eqb _ _ c.if-volume_bits-to_bits.false)
