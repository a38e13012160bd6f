-- `polyhedron_fields::answers` meets its contract: a near station's field is that of the edge and face sums, a far one's that of the tetrahedra. Assumes nothing.
use Rattle.std.proofs.Common.{◌≡◌, ◌+◌, ◌<◌, ◌∙◌, arith, below_more, ℕ, List, Float, true, false, sym, length, length-take-le, get_or, set}
use Rattle.std.specs.Prelude.{Ok}
use Rattle.std.proofs.lemmas.Grind.{common_steps}
use Rattle.std.proofs.lemmas.List.{get_or_default}
use Rattle.std.proofs.Math.Seq.{get_or-set_other, get_or-set_same}
use Rattle.newtonian.specs.declared.Vector.{Vector}
use Rattle.polyhedron_edge_face_sums.specs.EdgeFaceSums.{edge_face_sums}
use Rattle.polyhedron_neumaier.specs.Neumaier.{totals}
use Rattle.polyhedron_tetrahedra.specs.Tetrahedra.{tetrahedra}
use Rattle.polyhedron_blocks.specs.Blocks.{no_run, no_vector}
use Rattle.polyhedron.specs.Polyhedron.{polyhedron_from}
use Rattle.polyhedron_fields.specs.BlockFields.{no_field}
use Rattle.polyhedron_fields.specs.Walked.{far_sums, is_near}
use Rattle.polyhedron_fields.proofs.answers.Goals as goal
use Rattle.polyhedron_fields.proofs.answers.Goals.{then-block-j, else-block-j}

-- the field of a near station, and that of a far one
module _ (i : ℕ) (p c : Vector) (r : Float) (v : List Float) (f : List ℕ) where
  field_near : is_near p c r ≡ true → edge_face_sums i p v f ≡ polyhedron_from i p c r v f
  unfolding polyhedron_from
  field_near n = grind (arith, common_steps)

  field_far : is_near p c r ≡ false → Ok (totals (far_sums p c v f)) ≡ polyhedron_from i p c r v f
  unfolding polyhedron_from tetrahedra
  field_far n = grind (arith, common_steps)

pub loop-j-preserved : goal.loop-j-preserved
loop-j-preserved c = λ q r v f w.
    let l = c.loop-j in
    let a = c.args in
    let s = a.stations.now in
    let p = get_or a.block.now.places l.j no_vector in
    let size : length l.answer-items ≡ s.n = c.loop-j.auto.answer-items ∙ length-take-le s.n c.no_fields-out.result (omega (arith, s.few, c.no_fields-out.ensures)) in
    let here : l.j < s.n = omega (arith, size) in
    let near = w.nears l.j here in
    let field : c.if-block-j.answer ≡ polyhedron_from (s.first + l.j) p q r v f =
    elim c.if-block-j.branch [
      | then-block-j t ↦
          let run = get_or_default a.runs.now l.j t.index-runs-j.result no_run (omega (arith, s.few)) in
          rw (t.answer-is, t.near_field.ensures p v f (rw run (w.near_sums l.j (omega (arith, s.few)) t.if-block-j.true)), t.number.ensures) (field_near (s.first + l.j) p q r v f (sym near ∙ t.if-block-j.true))
      | else-block-j t ↦
          rw (t.answer-is, t.total.ensures, w.sums_far l.j here t.if-block-j.false) (field_far (s.first + l.j) p q r v f (sym near ∙ t.if-block-j.false))
    ] in
    below_more
    (λ i. get_or (set l.answer-items l.j c.if-block-j.answer) i no_field ≡ polyhedron_from (s.first + i) (get_or a.block.now.places i no_vector) q r v f)
    l.j
    (λ i h. rw (get_or-set_other l.answer-items l.j i c.if-block-j.answer no_field (λ e. omega arith)) (l.invariant q r v f w i h))
    (rw (get_or-set_same l.answer-items l.j c.if-block-j.answer no_field (omega (arith, size))) field)
