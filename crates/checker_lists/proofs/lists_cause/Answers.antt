-- `checker_lists::lists_cause` meets its contract: the lists are read, then 3, then 4, 17 and 18. Assumes nothing.
use Rattle.std.proofs.lemmas.Result.{err_from_is_err_and}
use mathlib.Core.Path.{sym, ◌∙◌}
use Rattle.checker_lists.specs.Stages.{lists_cause}
use Rattle.checker_lists.proofs.lists_cause.Goals as goal

pub returns-in_err-out_of_limits : goal.returns-in_err-out_of_limits
unfolding lists_cause
returns-in_err-out_of_limits c =
    let p = err_from_is_err_and c.from_residual.result c.from_residual.ensures.1 in
    record { value = rw (p.1, p.2, sym c.out_of_limits.ensures ∙ c.in_err-out_of_limits.was); loaded = c.read_lists.ensures }

pub returns : goal.returns
unfolding lists_cause
returns c = record { value = rw (sym c.out_of_limits.ensures ∙ c.in_ok-out_of_limits.was) c.indices_cause.ensures; loaded = c.read_lists.ensures }
