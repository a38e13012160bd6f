-- `sheet_readers::opened::whole_trailer` meets its contract. Assumes nothing.
use mathlib.Core.Path.{◌∙◌}
use Rattle.sheet_readers.proofs.Opening.{short, wrong_pointer, not-whole, right-length, pointer_read}
use Rattle.sheet_readers.proofs.opened.whole_trailer.Goals as goal

pub returns-then-n-lt-TRAILER_LENGTH : goal.returns-then-n-lt-TRAILER_LENGTH
returns-then-n-lt-TRAILER_LENGTH c = rw (← short c.args.bytes.now c.if-n-lt-TRAILER_LENGTH.true)

pub returns-then-u64_at-before : goal.returns-then-u64_at-before
returns-then-u64_at-before c =
    let n = c.pointer_of-before.ensures ∙ pointer_read c.args.bytes.now _ _ _ _ c.u32_at.ensures c.u32_at-2.ensures c.u32_at-3.ensures c.u32_at-4.ensures in
    rw (← wrong_pointer c.args.bytes.now c.pointer_of-before.result c.if-n-lt-TRAILER_LENGTH.false n _ c.u64_at.ensures c.if-u64_at-before.true)

pub returns-then-n-before : goal.returns-then-n-before
returns-then-n-before c =
    let n = c.pointer_of-before.ensures ∙ pointer_read c.args.bytes.now _ _ _ _ c.u32_at.ensures c.u32_at-2.ensures c.u32_at-3.ensures c.u32_at-4.ensures in
    rw (← not-whole c.args.bytes.now c.pointer_of-before.result c.if-n-lt-TRAILER_LENGTH.false n _ c.u64_at.ensures c.if-u64_at-before.false c.if-n-before.true)

pub returns : goal.returns
returns c =
    let n = c.pointer_of-before.ensures ∙ pointer_read c.args.bytes.now _ _ _ _ c.u32_at.ensures c.u32_at-2.ensures c.u32_at-3.ensures c.u32_at-4.ensures in
    rw (← right-length c.args.bytes.now c.pointer_of-before.result c.if-n-lt-TRAILER_LENGTH.false n _ c.u64_at.ensures c.if-u64_at-before.false c.if-n-before.false, c.read.ensures)
