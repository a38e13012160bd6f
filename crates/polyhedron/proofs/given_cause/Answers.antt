-- `polyhedron::given_cause` meets its contract. Assumes nothing.
use mathlib.Core.Path.{sym, ◌∙◌}
use Rattle.std.proofs.lemmas.Result.{err_from_is_err_and}
use Rattle.polyhedron.specs.Polyhedron.{given_cause}
use Rattle.polyhedron.proofs.given_cause.Goals as goal

pub returns-in_err-count_cause : goal.returns-in_err-count_cause
unfolding given_cause
returns-in_err-count_cause c =
    let p = err_from_is_err_and c.from_residual.result c.from_residual.ensures.1 in
    rw (p.1, p.2) (simp (sym c.count_cause.ensures ∙ c.in_err-count_cause.was))

pub returns-in_err-out_of_limits : goal.returns-in_err-out_of_limits
unfolding given_cause
returns-in_err-out_of_limits c =
    let p = err_from_is_err_and c.from_residual-in_err-out_of_limits.result c.from_residual-in_err-out_of_limits.ensures.1 in
    rw (p.1, p.2) (simp (sym c.count_cause.ensures ∙ c.in_ok-count_cause.was, sym c.out_of_limits.ensures ∙ c.in_err-out_of_limits.was))

pub returns-then-vector_within_limits : goal.returns-then-vector_within_limits
unfolding given_cause
returns-then-vector_within_limits c =
    simp (
      sym c.count_cause.ensures ∙ c.in_ok-count_cause.was,
      sym c.out_of_limits.ensures ∙ c.in_ok-out_of_limits.was,
      ← c.vector_within_limits.ensures,
      c.if-vector_within_limits.true,
    )

pub returns : goal.returns
unfolding given_cause
returns c =
    simp (
      sym c.count_cause.ensures ∙ c.in_ok-count_cause.was,
      sym c.out_of_limits.ensures ∙ c.in_ok-out_of_limits.was,
      ← c.vector_within_limits.ensures,
      c.if-vector_within_limits.false,
    )
