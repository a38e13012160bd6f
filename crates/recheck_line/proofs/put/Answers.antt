-- The word stands at its place, and the rest as it was.
use Rattle.std.proofs.Common.{arith}
use Rattle.recheck_line.proofs.Text.{part-written}
use Rattle.recheck_line.proofs.put.Goals as goal

pub returns : goal.returns
returns c = part-written c.args.out.now c.args.text.now c.copy_from_slice.new.self c.args.at _ c.copy_from_slice.ensures.after (omega arith) (omega arith)
