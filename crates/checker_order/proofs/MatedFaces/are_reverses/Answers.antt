-- `checker_order::MatedFaces::are_reverses` meets its contract. Assumes nothing.
use mathlib.Core.Path.{sym, ◌∙◌}
use Rattle.lists.proofs.Numbers.{true≢false}
use Rattle.checker_order.specs.Reverses.{mates_of}
use Rattle.checker_order.proofs.Mates.{first, second, third, not_first, not-second, up_to-third}
use Rattle.checker_order.proofs.MatedFaces.are_reverses.Goals as goal
use Rattle.checker_order.proofs.MatedFaces.are_reverses.Goals.{then-has_edge, else-has_edge}

pub returns-then-has_edge-2 : goal.returns-then-has_edge-2
returns-then-has_edge-2 c =
    let i = c.args.i in
    let f = c.args.self.faces.now in
    let m = mates_of f c.args.self.mates.now in
    let t = c.requires.0 in
    elim c.if-has_edge.branch [
      | then-has_edge w ↦
          c.has_edge-then-has_edge-2.ensures ∙ third f m i t _ c.mate-then-has_edge-2.ensures
          ∙ up_to-third f m i
          (sym (first f m i t _ c.mate.ensures) ∙ sym c.has_edge.ensures ∙ w.if-has_edge.true)
          (sym (second f m i t _ w.mate-then-has_edge.ensures) ∙ sym w.has_edge-then-has_edge.ensures ∙ sym w.value-is ∙ c.if-has_edge-2.true)
      | else-has_edge w ↦ absurd (true≢false (sym c.if-has_edge-2.true ∙ w.value-is ∙ w.if-has_edge.false))
    ]

pub returns-else-has_edge-2 : goal.returns-else-has_edge-2
returns-else-has_edge-2 c =
    let i = c.args.i in
    let f = c.args.self.faces.now in
    let m = mates_of f c.args.self.mates.now in
    let t = c.requires.0 in
    elim c.if-has_edge.branch [
      | then-has_edge w ↦
          c.if-has_edge-2.false
          ∙ not-second f m i
          (sym (first f m i t _ c.mate.ensures) ∙ sym c.has_edge.ensures ∙ w.if-has_edge.true)
          (sym (second f m i t _ w.mate-then-has_edge.ensures) ∙ sym w.has_edge-then-has_edge.ensures ∙ sym w.value-is ∙ c.if-has_edge-2.false)
      | else-has_edge w ↦ c.if-has_edge-2.false ∙ not_first f m i (sym (first f m i t _ c.mate.ensures) ∙ sym c.has_edge.ensures ∙ w.if-has_edge.false)
    ]
