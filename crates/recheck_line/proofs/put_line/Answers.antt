-- The pieces stand one after the other.
use Rattle.recheck_line.proofs.Text.{line-put}
use Rattle.recheck_line.proofs.put_line.Goals as goal

pub returns : goal.returns
returns c =
    line-put c.args.out.now c.args.word.now c.args.x c.args.y c.put_decimal.result c.put_decimal-2.result c.put_decimal.ensures.value.0 c.put_decimal-2.ensures.value.0
    c.put.ensures c.put_decimal.ensures.out_after c.put-2.ensures c.put_decimal-2.ensures.out_after c.put-3.ensures
