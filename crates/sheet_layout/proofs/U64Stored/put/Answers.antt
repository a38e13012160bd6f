-- `u64::put` meets its contract: two runs of four bytes are one of eight. Assumes nothing.
use Prim.Native.Nat.{◌+◌, ◌/◌, ◌%◌}
use Rattle.sheet_layout.specs.LittleEndian.{bytes}
use Rattle.sheet_layout.proofs.Stores.{sets_then}
use Rattle.sheet_layout.proofs.Numbers.{bytes-length, bytes_eight}
use Rattle.sheet_layout.proofs.U64Stored.put.Goals as goal

pub returns : goal.returns
returns c =
    let a = c.args in
    rw (c.put-2.ensures, c.put.ensures, bytes_eight a.self)
    (sets_then a.s.now a.i (a.i + 4) (bytes 4 (a.self % 0x1_0000_0000)) (bytes 4 (a.self / 0x1_0000_0000)) (rw bytes-length))
