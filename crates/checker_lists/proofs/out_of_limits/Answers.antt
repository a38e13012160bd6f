-- `checker_lists::out_of_limits` meets its contract: cause 3 of the vertices, the two vectors and the stations. Assumes nothing.
use Rattle.std.proofs.lemmas.Result.{err_from_is_err_and}
use mathlib.Core.Path.{◌≡◌, sym, ◌∙◌}
use mathlib.Core.Bool.{true}
use Prim.Native.Nat.{◌+◌}
use Rattle.std.specs.Prelude.{Ok}
use Rattle.newtonian.specs.Vectors.{vector_within_limits}
use Rattle.mesh.specs.Check as mesh
use Rattle.sheet.specs.Checker.{trailer, vector_in}
use Rattle.checker_lists.proofs.Limits.{in_vertices, in_magnetisation, in_ambient, in_stations}
use Rattle.checker_lists.proofs.out_of_limits.Goals as goal

pub returns-in_err-out_of_limits : goal.returns-in_err-out_of_limits
returns-in_err-out_of_limits c =
    let p = err_from_is_err_and c.from_residual.result c.from_residual.ensures.1 in
    rw (p.1, p.2) (in_vertices c.args.sheet.bytes.now c.args.verts.now c.requires _ (sym c.out_of_limits.ensures ∙ c.in_err-out_of_limits.was))

pub returns-then-not-vector_within_limits : goal.returns-then-not-vector_within_limits
returns-then-not-vector_within_limits c =
    let within : mesh.out_of_limits c.args.verts.now ≡ Ok tt = sym c.out_of_limits.ensures ∙ c.in_ok-out_of_limits.was in
    in_magnetisation c.args.sheet.bytes.now c.args.verts.now c.requires within
    (rw (← c.args.sheet.read.magnetisation, ← c.vector_within_limits.ensures) c.if-not-vector_within_limits.true)

pub returns-then-not-vector_within_limits-2 : goal.returns-then-not-vector_within_limits-2
returns-then-not-vector_within_limits-2 c =
    let within : mesh.out_of_limits c.args.verts.now ≡ Ok tt = sym c.out_of_limits.ensures ∙ c.in_ok-out_of_limits.was in
    let magnetised : let b = c.args.sheet.bytes.now in vector_within_limits (vector_in b (trailer b + 16)) ≡ true = rw (← c.args.sheet.read.magnetisation, ← c.vector_within_limits.ensures) c.if-not-vector_within_limits.false in
    in_ambient c.args.sheet.bytes.now c.args.verts.now c.requires within magnetised
    (rw (← c.args.sheet.read.ambient, ← c.vector_within_limits-2.ensures) c.if-not-vector_within_limits-2.true)

pub returns : goal.returns
returns c =
    let within : mesh.out_of_limits c.args.verts.now ≡ Ok tt = sym c.out_of_limits.ensures ∙ c.in_ok-out_of_limits.was in
    let magnetised : let b = c.args.sheet.bytes.now in vector_within_limits (vector_in b (trailer b + 16)) ≡ true = rw (← c.args.sheet.read.magnetisation, ← c.vector_within_limits.ensures) c.if-not-vector_within_limits.false in
    c.out_of_limits_at.ensures ∙ rw (c.args.sheet.read.stations, c.stations_start.ensures)
    (in_stations c.args.sheet.bytes.now c.args.verts.now c.requires within magnetised
    (rw (← c.args.sheet.read.ambient, ← c.vector_within_limits-2.ensures) c.if-not-vector_within_limits-2.false))
