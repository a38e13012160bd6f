-- `profile::given_cause` meets its contract: 1, 2 and 12, then 3. Assumes nothing.
use Rattle.std.proofs.lemmas.Result.{err_from_is_err_and}
use Rattle.profile.proofs.Answers.{given_in_two}
use Rattle.profile.proofs.given_cause.Goals as goal

pub returns-in_err-count_cause : goal.returns-in_err-count_cause
returns-in_err-count_cause c =
    let a = c.args in
    let p = err_from_is_err_and c.from_residual.result c.from_residual.ensures.1 in
    rw (p.1, p.2, given_in_two a.verts.now a.faces.now a.stations.now a.room a.space, ← c.in_err-count_cause.ensures)

pub returns-in_err-out_of_limits : goal.returns-in_err-out_of_limits
returns-in_err-out_of_limits c =
    let a = c.args in
    let p = err_from_is_err_and c.from_residual-in_err-out_of_limits.result c.from_residual-in_err-out_of_limits.ensures.1 in
    rw (p.1, p.2, given_in_two a.verts.now a.faces.now a.stations.now a.room a.space, ← c.in_ok-count_cause.ensures, ← c.in_err-out_of_limits.ensures)

pub returns : goal.returns
returns c =
    let a = c.args in
    rw (given_in_two a.verts.now a.faces.now a.stations.now a.room a.space, ← c.in_ok-count_cause.ensures, ← c.in_ok-out_of_limits.ensures) c.out_of_limits-2.ensures
