-- `u32::put` meets its contract. Assumes nothing.
use native.Mathlib.Numerals.{add-one}
use Rattle.sheet_layout.proofs.Numbers.{bytes_four, two, three}
use Rattle.sheet_layout.proofs.U32Stored.put.Goals as goal

pub returns : goal.returns
returns c = rw (c.to_le_bytes-b.ensures, ← bytes_four c.args.self, add-one, two, three)
