-- `polyhedron_on_edge::Edges::add` meets its contract: `Adding` has the law of each answer. Assumes nothing.
use Rattle.std.proofs.Common.{arith, ap, ◌∙◌}
use Rattle.polyhedron_on_edge.proofs.Adding.{is_found, is_new, is_past, was_full}
use Rattle.polyhedron_on_edge.specs.Block.{dyad_in}
use Rattle.polyhedron_on_edge.specs.OnEdge.{add_matrices}
use Rattle.polyhedron_on_edge.specs.declared.Edges.{Edges}
use Rattle.polyhedron_on_edge.proofs.Edges.add.Goals as goal
use Rattle.polyhedron_on_edge.proofs.Edges.add.Goals.{then-self-lt-EDGE_LIMIT, else-self-lt-EDGE_LIMIT}

pub returns-then-self-gt-EDGE_LIMIT : goal.returns-then-self-gt-EDGE_LIMIT
returns-then-self-gt-EDGE_LIMIT c = λ es h. was_full es c.args.self.now h c.args.key c.args.d c.if-self-gt-EDGE_LIMIT.true

pub returns-in-Some : goal.returns-in-Some
returns-in-Some c =
    let w = c.store.ensures in
    λ es h. is_found es c.args.self.now h c.args.key c.args.d c.if-self-gt-EDGE_LIMIT.false c.store.new.self c.in-Some.at c.in-Some.ensures w.count w.keys
    (w.here ∙ c.add_matrices.ensures ∙ ap (λ x. add_matrices x c.args.d) c.dyad.ensures) w.others

pub returns : goal.returns
returns c =
    let held = c.args.self.now in
    λ es h.
    elim c.if-self-lt-EDGE_LIMIT.branch [
      | then-self-lt-EDGE_LIMIT w ↦
          let s = w.store-then-self-lt-EDGE_LIMIT.ensures in
          is_new es held h c.args.key c.args.d (omega arith) _ c.in_default.ensures (omega arith) (cc) (cc) (ap (λ (e : Edges). dyad_in e.dyads held.count) w.self-is ∙ s.here)
          (λ j n. ap (λ (e : Edges). dyad_in e.dyads j) w.self-is ∙ s.others j n)
      | else-self-lt-EDGE_LIMIT w ↦ is_past es held h c.args.key c.args.d (omega arith) _ c.in_default.ensures (omega arith) (cc)
    ]
