-- `writer_causes::number_cause` meets its contract: cause 3 of vertices, fields and stations. Assumes nothing.
use Rattle.std.proofs.lemmas.Result.{err_from_is_err_and}
use mathlib.Core.Path.{sym, ◌∙◌}
use Rattle.anomaly.specs.Limits.{both_within_limits}
use Rattle.sheet.specs.Writer.{out_of_limits}
use Rattle.writer_causes.proofs.number_cause.Goals as goal

pub returns-in_err-out_of_limits : goal.returns-in_err-out_of_limits
unfolding out_of_limits
returns-in_err-out_of_limits c =
    let p = err_from_is_err_and c.from_residual.result c.from_residual.ensures.1 in
    λ k f. rw (p.1, p.2, sym c.out_of_limits.ensures ∙ c.in_err-out_of_limits.was)

pub returns-then-not-both_within_limits : goal.returns-then-not-both_within_limits
unfolding out_of_limits both_within_limits
returns-then-not-both_within_limits c = λ k f. rw (sym c.out_of_limits.ensures ∙ c.in_ok-out_of_limits.was, sym c.both_within_limits.ensures ∙ c.if-not-both_within_limits.true)

pub returns : goal.returns
unfolding out_of_limits both_within_limits
returns c = λ k f. rw (sym c.out_of_limits.ensures ∙ c.in_ok-out_of_limits.was, sym c.both_within_limits.ensures ∙ c.if-not-both_within_limits.false) c.out_of_limits-2.ensures
