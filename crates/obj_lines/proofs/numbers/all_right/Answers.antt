-- `obj_lines::numbers::all_right` meets its contract. Assumes nothing.
use Rattle.std.proofs.Common.{arith}
use Rattle.std.proofs.lemmas.Result.{err_from_is_err_and}
use Rattle.obj_lines.proofs.Three.{some, exit_x, exit_y, exit_z, all_few, too_many}
use Rattle.obj_lines.proofs.numbers.all_right.Goals as goal

pub returns-in_err-x : goal.returns-in_err-x
returns-in_err-x c =
    let a = c.args in
    let p = err_from_is_err_and c.from_residual.result c.from_residual.ensures.1 in
    rw (p.1, p.2) (exit_x a.x a.y a.z _ c.in_err-x.ensures.value)

pub returns-in_err-y : goal.returns-in_err-y
returns-in_err-y c =
    let a = c.args in
    let p = err_from_is_err_and c.from_residual-in_err-y.result c.from_residual-in_err-y.ensures.1 in
    rw (p.1, p.2) (exit_y a.x a.y a.z _ c.in_err-y.ensures.value)

pub returns-in_err-z : goal.returns-in_err-z
returns-in_err-z c =
    let a = c.args in
    let p = err_from_is_err_and c.from_residual-in_err-z.result c.from_residual-in_err-z.ensures.1 in
    rw (p.1, p.2) (exit_z a.x a.y a.z _ c.in_err-z.ensures.value)

pub returns-then-max-gt-MAX_DIGITS : goal.returns-then-max-gt-MAX_DIGITS
returns-then-max-gt-MAX_DIGITS c =
    let x = some c.args.x c.in_ok-x.x c.in_ok-x.ensures.value in
    let y = some c.args.y c.in_ok-y.y c.in_ok-y.ensures.value in
    let z = some c.args.z c.in_ok-z.z c.in_ok-z.ensures.value in
    rw (x, y, z) (too_many c.in_ok-x.x c.in_ok-y.y c.in_ok-z.z (omega arith))

pub returns : goal.returns
returns c =
    let x = some c.args.x c.in_ok-x.x c.in_ok-x.ensures.value in
    let y = some c.args.y c.in_ok-y.y c.in_ok-y.ensures.value in
    let z = some c.args.z c.in_ok-z.z c.in_ok-z.ensures.value in
    (rw (x, y, z) (all_few c.in_ok-x.x c.in_ok-y.y c.in_ok-z.z (omega arith)), x, y, z)
