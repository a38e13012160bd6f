-- `prism::pieces` meets its contract: what refuses a half refuses the piece. Assumes nothing.
use Rattle.std.proofs.Common.{sym, ◌∙◌}
use Rattle.std.proofs.lemmas.Bool.{ne_eqb}
use Rattle.std.proofs.lemmas.Result.{err_from_is_err_and}
use Rattle.prism.specs.Prism.{join}
use Rattle.prism.proofs.Step.{step}
use Rattle.prism.proofs.+pieces.Goals as goal

pub returns-in_err-lower_field-in-Halves : goal.returns-in_err-lower_field-in-Halves
unfolding join
returns-in_err-lower_field-in-Halves t c =
    let p = err_from_is_err_and c.from_residual.result c.from_residual.ensures.1 in
    rw (p.1, p.2, step)
    (simp (sym c.piece_of.ensures ∙ c.in-Halves.is, ne_eqb _ _ c.if-n-eq0.false, sym c.pieces.ensures ∙ c.in_err-lower_field-in-Halves.was))

pub returns-in_err-upper_field-in-Halves : goal.returns-in_err-upper_field-in-Halves
unfolding join
returns-in_err-upper_field-in-Halves t c =
    let p = err_from_is_err_and c.from_residual-in_err-upper_field-in-Halves.result c.from_residual-in_err-upper_field-in-Halves.ensures.1 in
    rw (p.1, p.2, step)
    (simp (sym c.piece_of.ensures ∙ c.in-Halves.is, ne_eqb _ _ c.if-n-eq0.false, sym c.pieces.ensures ∙ c.in_ok-lower_field-in-Halves.was, sym c.pieces-in-Halves.ensures ∙ c.in_err-upper_field-in-Halves.was))
