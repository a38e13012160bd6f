-- `writer_parts::put_trailer` meets its contract. Assumes nothing.
use Rattle.writer_parts.proofs.Pieces.{trailer}
use Rattle.writer_parts.proofs.put_trailer.Goals as goal

pub returns : goal.returns
returns c =
    let a = c.args in
    let s = a.source.now in
    trailer s.kind a.v a.f a.n s.magnetisation s.ambient a.volume a.at a.out.now c.put_u32s.ensures c.put_f64s.ensures c.put_u64.ensures
