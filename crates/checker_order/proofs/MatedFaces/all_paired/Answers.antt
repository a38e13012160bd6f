-- `checker_order::MatedFaces::all_paired` meets its contract: the mates so far are paired. Assumes nothing.
use native.Mathlib.Omega.{arith}
use Rattle.checker_order.specs.Reverses.{mates_of}
use Rattle.checker_order.proofs.Pairs.{face-more}
use Rattle.checker_order.proofs.MatedFaces.all_paired.Goals as goal

pub loop-i-preserved : goal.loop-i-preserved
loop-i-preserved c =
    let f = c.args.self.faces.now in
    (omega arith, omega arith, face-more f (mates_of f c.args.self.mates.now) c.loop-i.i c.loop-i.invariant.2 (c.is_paired.ensures c.if-not-is_paired.false))

-- after the last face
pub returns-else-not-is_paired : goal.returns-else-not-is_paired
returns-else-not-is_paired c = λ e u l.
    let f = c.args.self.faces.now in
    face-more f (mates_of f c.args.self.mates.now) c.loop-i.i c.loop-i.invariant.2 (c.is_paired.ensures c.if-not-is_paired.false) u (omega arith)
