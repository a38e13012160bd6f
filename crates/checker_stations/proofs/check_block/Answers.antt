-- `checker_stations::check_block` meets its contract: none of the stations so far is refused. Assumes nothing.
use Rattle.std.proofs.lemmas.Result.{err_from_is_err_and}
use mathlib.Core.Path.{◌≡◌, refl, sym, ◌∙◌}
use Prim.Native.Nat.{ℕ, ◌+◌}
use native.Mathlib.Omega.{arith}
use Rattle.std.proofs.Common.{◌<◌, length-take, get_or-take}
use Rattle.polyhedron_fields.specs.BlockFields.{no_field}
use Rattle.refusals.specs.Causes.{first_of}
use Rattle.std.specs.Prelude.{Ok}
use Rattle.refusals.specs.Causes.{Cause}
use Rattle.refusals.proofs.Causes.{more, stop}
use Rattle.sheet.specs.Checker.{parse, check_station}
use Rattle.checker_stations.proofs.check_block.Goals as goal

none : (c : ℕ → Cause) → first_of 0 c ≡ Ok tt
unfolding first_of
none c = refl

pub loop-j-init : goal.loop-j-init
loop-j-init c = none _

pub check_station-requires : goal.check_station-requires
check_station-requires c =
    let inside : c.loop-j.j < c.args.block.now.n = omega (arith, length-take c.args.block.now.n c.args.fields) in
    let p = c.requires in
    let e = c.number.ensures in
    (omega (arith, e, inside, p.0), rw e (get_or-take c.args.block.now.n c.args.fields c.loop-j.j no_field inside ∙ p.1 c.loop-j.j inside))

pub returns-in_err-check_station : goal.returns-in_err-check_station
returns-in_err-check_station c =
    let inside : c.loop-j.j < c.args.block.now.n = omega (arith, length-take c.args.block.now.n c.args.fields) in
    let b = c.args.sheet.bytes.now in
    let s = c.args.block.now in
    let told = rw c.number.ensures at (sym c.check_station.ensures ∙ c.in_err-check_station.was) in
    let p = err_from_is_err_and c.from_residual.result c.from_residual.ensures.1 in
    rw (p.1, p.2) (sym (stop s.n c.loop-j.j (λ i. check_station b (parse b) (s.first + i)) _ inside c.loop-j.invariant told))

pub loop-j-preserved : goal.loop-j-preserved
loop-j-preserved c =
    let b = c.args.sheet.bytes.now in
    let s = c.args.block.now in
    let told = rw c.number.ensures at (sym c.check_station.ensures ∙ c.in_ok-check_station.was) in
    more c.loop-j.j (λ i. check_station b (parse b) (s.first + i)) c.loop-j.invariant told
