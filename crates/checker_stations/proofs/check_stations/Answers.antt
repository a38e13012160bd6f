-- `checker_stations::check_stations` meets its contract: none of the stations of the blocks so far is refused. Assumes nothing.
use Rattle.std.proofs.lemmas.Result.{err_from_is_err_and}
use mathlib.Core.Path.{◌≡◌, refl, sym, ◌∙◌, subst}
use Prim.Native.Nat.{ℕ, ◌+◌, ◌≤◌}
use native.Mathlib.Omega.{arith}
use Rattle.refusals.specs.Causes.{first_of}
use Rattle.std.specs.Prelude.{Ok}
use Rattle.refusals.specs.Causes.{Cause}
use Rattle.sheet.specs.Checker.{stations_in, parse, check_station}
use Rattle.checker_lists.specs.Stages.{stations_cause}
use Rattle.checker_stations.proofs.InBlocks.{block_passed, block_refused}
use Rattle.checker_stations.proofs.check_stations.Goals as goal

none : (c : ℕ → Cause) → first_of 0 c ≡ Ok tt
unfolding first_of
none c = refl

pub loop-first-init : goal.loop-first-init
loop-first-init c = (omega arith, none _)

pub returns-in_err-check_block : goal.returns-in_err-check_block
unfolding stations_cause
returns-in_err-check_block c =
    let within : c.loop-first.first + c.min-n.result ≤ stations_in c.args.body.sheet.bytes.now = omega (arith, c.min-n.ensures, c.loop-first-test.true, c.args.body.sheet.read.stations) in
    let l = c.loop-first in
    let b = c.args.body.sheet.bytes.now in
    let told = simp (c.block_of-block.ensures.range.0, c.block_of-block.ensures.range.1) at (sym c.check_block.ensures ∙ c.in_err-check_block.was) in
    let p = err_from_is_err_and c.from_residual.result c.from_residual.ensures.1 in
    rw (p.1, p.2) (sym (block_refused l.first c.min-n.result (check_station b (parse b)) l.invariant.1 (stations_in b) _ within told))

pub loop-first-preserved : goal.loop-first-preserved
loop-first-preserved c =
    let l = c.loop-first in
    let b = c.args.body.sheet.bytes.now in
    let next : l.first + c.min-n.result ≡ l.first + 8 = omega (arith, c.min-n.ensures) in
    let told = simp (c.block_of-block.ensures.range.0, c.block_of-block.ensures.range.1) at (sym c.check_block.ensures ∙ c.in_ok-check_block.was) in
    (omega arith, subst (λ (k : ℕ). first_of k (check_station b (parse b)) ≡ Ok tt) next (block_passed l.first c.min-n.result (check_station b (parse b)) l.invariant.1 told))

-- after the last block
pub returns-in_ok-check_block : goal.returns-in_ok-check_block
unfolding stations_cause
returns-in_ok-check_block c =
    let l = c.loop-first in
    let b = c.args.body.sheet.bytes.now in
    let e : l.first + c.min-n.result ≡ stations_in b = omega (arith, c.min-n.ensures, c.args.body.sheet.read.stations) in
    let told = simp (c.block_of-block.ensures.range.0, c.block_of-block.ensures.range.1) at (sym c.check_block.ensures ∙ c.in_ok-check_block.was) in
    sym (subst (λ (n : ℕ). first_of n (check_station b (parse b)) ≡ Ok tt) e (block_passed l.first c.min-n.result (check_station b (parse b)) l.invariant.1 told))

pub returns : goal.returns
unfolding stations_cause
returns c =
    let b = c.args.body.sheet.bytes.now in
    let e : c.loop-first.first ≡ stations_in b = omega (arith, c.args.body.sheet.read.stations) in
    sym (subst (λ (n : ℕ). first_of n (check_station b (parse b)) ≡ Ok tt) e c.loop-first.invariant.1)
