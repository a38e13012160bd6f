-- `checker_order::MatedFaces::wrong_mate` meets its contract: the mates so far are reverses. Assumes nothing.
use mathlib.Core.Path.{sym, ◌∙◌}
use Prim.Native.Nat.{◌+◌}
use native.Mathlib.Omega.{arith}
use lib.ListN.{length}
use Rattle.refusals.specs.declared.Refusal.TheVariants.{WrongMate}
use Rattle.mesh.proofs.Scans.{scan_start, scan_end}
use Rattle.sheet.specs.Checker.{is_reverse, wrong_mate}
use Rattle.checker_order.specs.Reverses.{mates_of}
use Rattle.checker_order.proofs.Mates.{three_more, three_stop}
use Rattle.checker_order.proofs.MatedFaces.wrong_mate.Goals as goal

pub loop-i-init : goal.loop-i-init
loop-i-init c =
    let f = c.args.self.faces.now in
    (omega arith, omega arith, scan_start (length f) (is_reverse f (mates_of f c.args.self.mates.now)) (λ j. WrongMate))

pub returns-then-not-are_reverses : goal.returns-then-not-are_reverses
returns-then-not-are_reverses c =
    let f = c.args.self.faces.now in
    three_stop f (mates_of f c.args.self.mates.now) c.loop-i.i (omega arith) c.loop-i.invariant.2 (sym c.are_reverses.ensures ∙ c.if-not-are_reverses.true)

pub loop-i-preserved : goal.loop-i-preserved
loop-i-preserved c =
    let f = c.args.self.faces.now in
    (omega arith, omega arith, three_more f (mates_of f c.args.self.mates.now) c.loop-i.i c.loop-i.invariant.2 (sym c.are_reverses.ensures ∙ c.if-not-are_reverses.false))

pub returns : goal.returns
unfolding wrong_mate
returns c =
    let f = c.args.self.faces.now in
    scan_end (length f) (is_reverse f (mates_of f c.args.self.mates.now)) (λ j. WrongMate) c.loop-i.i (omega arith) (omega arith) c.loop-i.invariant.2

-- after the last face
pub returns-else-not-are_reverses : goal.returns-else-not-are_reverses
unfolding wrong_mate
returns-else-not-are_reverses c =
    let f = c.args.self.faces.now in
    let m = mates_of f c.args.self.mates.now in
    scan_end (length f) (is_reverse f m) (λ j. WrongMate) (c.loop-i.i + 3) (omega arith) (omega arith)
    (three_more f m c.loop-i.i c.loop-i.invariant.2 (sym c.are_reverses.ensures ∙ c.if-not-are_reverses.false))
