-- `obj_writer::not_whole` meets its contract: each coordinate so far is whole. Assumes nothing.
use Rattle.std.proofs.Common.{◌≡◌, Ok, get_or}
use Rattle.std.specs.Float.{nan}
use Rattle.refusals.specs.declared.Refusal.TheVariants.{OutOfLimits}
use Rattle.refusals.specs.Causes.{unless, first_of}
use Rattle.obj.specs.Whole.{is_whole}
use Rattle.obj.specs.Writer.{max_coordinate}
use Rattle.obj_writer.proofs.not_whole.Given as goal

abbrev pub invariant-loop-x : goal.invariant-loop-x
invariant-loop-x l = first_of l.x-index (λ i. unless (is_whole max_coordinate (get_or l.verts i nan)) OutOfLimits) ≡ Ok tt
