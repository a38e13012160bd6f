-- `writer_parts::put_front` meets its contract. Assumes nothing.
use mathlib.Core.Path.{ap, ◌∙◌}
use native.Mathlib.Omega.{arith}
use lib.ListN.{length}
use Rattle.mesh_orders.specs.OrderLaws.{order-length}
use Rattle.writer_parts.proofs.Pieces.{front}
use Rattle.writer_parts.proofs.put_front.Goals as goal

pub put_u32s-requires-2 : goal.put_u32s-requires-2
put_u32s-requires-2 c = omega (arith, ap length c.requires.0 ∙ order-length c.args.source.now.faces.now, c.requires.1)

pub returns : goal.returns
returns c =
    let a = c.args in
    let s = a.source.now in
    front a.out.now s.verts.now s.faces.now a.order.now s.stations.now c.requires.0 c.requires.1 c.requires.2 c.put_f64s.ensures c.put_u32s.ensures c.put_u32s-2.ensures c.put_f64s-2.ensures
