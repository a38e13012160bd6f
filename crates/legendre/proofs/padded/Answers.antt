-- `legendre::padded` meets its contract. Assumes nothing.
use Rattle.std.proofs.Common.{◌≡◌, ◌<◌, sym, ◌∙◌, length, drop, arith, length-take}
use Rattle.std.proofs.lemmas.List.{set-append_left, take-append-drop}
use Rattle.legendre.specs.GaussLegendre.{zeros, padded}
use Rattle.legendre.proofs.Entries.{readable, padded-more}
use Rattle.legendre.proofs.padded.Goals as goal

pub loop-i-init : goal.loop-i-init
unfolding padded zeros
loop-i-init c = take-append-drop c.args.n zeros

pub float_from_bits-x : goal.float_from_bits-x
unfolding zeros
float_from_bits-x c = readable c.args.t.now c.requires.0 _ (omega (arith, length-take c.args.n zeros))

pub loop-i-preserved : goal.loop-i-preserved
unfolding zeros
loop-i-preserved c =
    let l = c.loop-i in
    let inside : l.i < length l.x-items = omega (arith, length-take c.args.n zeros) in
    sym (set-append_left l.x-items (drop c.args.n zeros) l.i _ inside) ∙ padded-more c.args.t.now c.requires.0 _ _ _ l.invariant

pub returns : goal.returns
unfolding zeros
returns c =
    let l = c.loop-i in
    let all : l.i ≡ c.args.n = omega (arith, length-take c.args.n zeros) in
    rw all at l.invariant
