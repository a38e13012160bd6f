-- `obj_writer::not_whole` meets its contract: each coordinate so far is whole. Assumes nothing.
use Rattle.std.proofs.Common.{sym, ◌∙◌, length, get_or, arith}
use Rattle.std.specs.Float.{nan}
use Rattle.refusals.specs.declared.Refusal.TheVariants.{OutOfLimits}
use Rattle.mesh.proofs.Scans.{scan_start, scan_more, scan_stop, scan_end}
use Rattle.obj.specs.Whole.{is_whole}
use Rattle.obj.specs.Writer.{max_coordinate, not_whole}
use Rattle.obj_writer.proofs.not_whole.Goals as goal

pub loop-x-init : goal.loop-x-init
loop-x-init c = let v = c.args.verts.now in scan_start (length v) (λ i. is_whole max_coordinate (get_or v i nan)) (λ i. OutOfLimits)

pub returns-then-not-is_whole : goal.returns-then-not-is_whole
unfolding not_whole
returns-then-not-is_whole c =
    let v = c.args.verts.now in
    scan_stop (length v) (λ i. is_whole max_coordinate (get_or v i nan)) (λ i. OutOfLimits) c.loop-x.x-index (omega arith) c.loop-x.invariant (sym c.is_whole.ensures ∙ c.if-not-is_whole.true)

pub loop-x-preserved : goal.loop-x-preserved
loop-x-preserved c =
    let v = c.args.verts.now in
    scan_more (length v) (λ i. is_whole max_coordinate (get_or v i nan)) (λ i. OutOfLimits) c.loop-x.x-index c.loop-x.invariant (sym c.is_whole.ensures ∙ c.if-not-is_whole.false)

pub returns : goal.returns
unfolding not_whole
returns c =
    let v = c.args.verts.now in
    scan_end (length v) (λ i. is_whole max_coordinate (get_or v i nan)) (λ i. OutOfLimits) c.loop-x.x-index (omega arith) (omega arith) c.loop-x.invariant
