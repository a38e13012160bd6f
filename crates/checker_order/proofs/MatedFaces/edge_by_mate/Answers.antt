-- `checker_order::MatedFaces::edge_by_mate` meets its contract. Assumes nothing.
use mathlib.Core.Path.{ap, ◌∙◌}
use Prim.Native.Nat.{ℕ}
use Rattle.mesh_orders.specs.Edges.{from, edge_number}
use Rattle.checker_order.specs.Reverses.{mates_of}
use Rattle.checker_order.proofs.Pairs.{mate-edge}
use Rattle.checker_order.proofs.MatedFaces.edge_by_mate.Goals as goal

pub returns : goal.returns
returns c =
    let f = c.args.self.faces.now in
    let u = c.args.u in
    c.number.ensures ∙ ap (λ (w : ℕ). edge_number (from f u) (from f w)) c.mate.ensures ∙ mate-edge f (mates_of f c.args.self.mates.now) c.requires.1 u c.requires.0
