-- `lanes_ln::all_normal` meets its contract. Assumes nothing.
use native.Mathlib.Omega.{arith}
use borrow.Author.Count.{below_more}
use Rattle.lists.proofs.Numbers.{both}
use Rattle.lanes_ln.proofs.all_normal.Goals as goal

pub loop-xk-preserved : goal.loop-xk-preserved
loop-xk-preserved g c = λ e. let w = both c.loop-xk.normal c.is_normal-normal.result e in below_more _ _ (c.loop-xk.invariant w.0) (c.is_normal-normal.ensures w.1)

pub returns : goal.returns
returns g c = λ e k l. c.loop-xk.invariant e k (omega arith)
