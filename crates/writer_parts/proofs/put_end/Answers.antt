-- `writer_parts::put_end` meets its contract. Assumes nothing.
use mathlib.Core.List.{List}
use Prim.Native.Nat.{◌-◌}
use lib.ListN.{length}
use Rattle.sheet_layout.specs.Parts.{Part}
use Rattle.sheet.specs.Bytes.{trailer_length}
use Rattle.writer_parts.specs.PartsPut.{trailer_parts}
use Rattle.writer_parts.proofs.Pieces.{zeroed, ended}
use Rattle.writer_parts.proofs.put_end.Goals as goal

pub returns-in-Err : goal.returns-in-Err
returns-in-Err c =
    let trailer : List Part = let a = c.args in let s = a.source.now in trailer_parts s.kind a.v a.f a.n s.magnetisation s.ambient a.volume (length a.out.now - trailer_length) in
    zeroed trailer c.args.out.now c.in-Err.is c.put_zeros.ensures

pub returns : goal.returns
returns c =
    let trailer : List Part = let a = c.args in let s = a.source.now in trailer_parts s.kind a.v a.f a.n s.magnetisation s.ambient a.volume (length a.out.now - trailer_length) in
    ended trailer c.args.out.now c.in_default.is c.put_trailer.ensures
