-- `writer_put_sheet::put_sheet` meets its contract. Assumes nothing.
use mathlib.Core.Path.{◌≡◌}
use native.Mathlib.Omega.{arith}
use lib.ListN.{length}
use Rattle.sheet.specs.Input.{SheetInput, source_input}
use Rattle.writer_rows.proofs.RowLaws.{none-refused}
use Rattle.writer_put_sheet.proofs.Pieces.{put-together}
use Rattle.writer_put_sheet.proofs.put_sheet.Goals as goal

pub returns : goal.returns
returns c =
    let input : SheetInput = source_input c.args.source.now in
    let same_size : length c.put_rows-cause.new.out ≡ length c.args.out.now = omega arith in
    let a = c.args in
    let put = c.put_rows-cause.ensures in
    record {
      cause = put.cause;
      bytes = put-together input a.order.now a.volume a.out.now c.requires.0 same_size c.put_front.ensures c.put_rows-cause.result put.cause (none-refused input _ put) c.put_end.ensures;
    }
