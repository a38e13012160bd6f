-- `polyhedron_on_edge::Edges::store` meets its contract. Assumes nothing.
use Rattle.std.proofs.Common.{◌≡◌, ◌*◌, ◌+◌, ◌-◌, arith}
use Rattle.polyhedron_on_edge.proofs.Storing.{dyad-other, dyad-stored}
use Rattle.polyhedron_on_edge.proofs.Edges.store.Goals as goal

pub returns-clause-here : goal.returns-clause-here
returns-clause-here c =
    let e : c.args.i * 9 + 9 - c.args.i * 9 ≡ 9 = omega arith in
    rw (e, c.copy_from_slice.ensures.after, c.into-numbers.ensures) (dyad-stored c.args.i c.args.d c.args.self.now.dyads (omega arith))

pub returns-clause-others : goal.returns-clause-others
returns-clause-others c =
    let e : c.args.i * 9 + 9 - c.args.i * 9 ≡ 9 = omega arith in
    λ j n. rw (e, c.copy_from_slice.ensures.after, c.into-numbers.ensures) (dyad-other c.args.i c.args.d c.args.self.now.dyads (omega arith) j n)
