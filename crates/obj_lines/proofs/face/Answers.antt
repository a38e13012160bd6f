-- `obj_lines::face` meets its contract. Assumes nothing.
use Rattle.std.proofs.Common.{ap, ◌∙◌}
use Rattle.std.specs.Prelude.{Err}
use Rattle.std.proofs.lemmas.Option.{MatchOption-at_none, MatchOption-at_some}
use Rattle.std.proofs.lemmas.Result.{err_from_is_err_and}
use Rattle.obj.specs.Text.{fields}
use Rattle.obj_lines.proofs.Three.{none_there, some}
use Rattle.obj_lines.proofs.ThreeFields.{face_other, face_cause, face_holds, least}
use Rattle.obj_lines.proofs.face.Goals as goal

pub returns-in_err-a : goal.returns-in_err-a
returns-in_err-a c =
    let p = err_from_is_err_and c.from_residual.result c.from_residual.ensures.1 in
    let n = none_there c.three_fields.result _ c.in_err-a.ensures.value in
    rw (p.1, p.2) (face_other (fields c.args.text.now) (MatchOption-at_none _ _ n.0 c.three_fields.ensures) ∙ ap Err n.1)

pub returns-in_err-p : goal.returns-in_err-p
returns-in_err-p c =
    let p = err_from_is_err_and c.from_residual-in_err-p.result c.from_residual-in_err-p.ensures.1 in
    let are = MatchOption-at_some _ _ _ (some c.three_fields.result _ c.in_ok-a.ensures.value) c.three_fields.ensures in
    rw (p.1, p.2) (face_cause _ _ _ _ are c.index.result c.index-2.result c.index-3.result c.index.ensures c.index-2.ensures c.index-3.ensures ∙ c.in_err-p.ensures)

pub overflow_sub-result : goal.overflow_sub-result
overflow_sub-result c =
    let n = c.in_ok-p in
    let are = MatchOption-at_some _ _ _ (some c.three_fields.result _ c.in_ok-a.ensures.value) c.three_fields.ensures in
    (least _ _ _ _ are c.index.result c.index-2.result c.index-3.result c.index.ensures c.index-2.ensures c.index-3.ensures n.p n.q n.r n.ensures).0

pub overflow_sub-result-2 : goal.overflow_sub-result-2
overflow_sub-result-2 c =
    let n = c.in_ok-p in
    let are = MatchOption-at_some _ _ _ (some c.three_fields.result _ c.in_ok-a.ensures.value) c.three_fields.ensures in
    (least _ _ _ _ are c.index.result c.index-2.result c.index-3.result c.index.ensures c.index-2.ensures c.index-3.ensures n.p n.q n.r n.ensures).1

pub overflow_sub-result-3 : goal.overflow_sub-result-3
overflow_sub-result-3 c =
    let n = c.in_ok-p in
    let are = MatchOption-at_some _ _ _ (some c.three_fields.result _ c.in_ok-a.ensures.value) c.three_fields.ensures in
    (least _ _ _ _ are c.index.result c.index-2.result c.index-3.result c.index.ensures c.index-2.ensures c.index-3.ensures n.p n.q n.r n.ensures).2

pub returns : goal.returns
returns c =
    let n = c.in_ok-p in
    let are = MatchOption-at_some _ _ _ (some c.three_fields.result _ c.in_ok-a.ensures.value) c.three_fields.ensures in
    face_holds _ _ _ _ are c.index.result c.index-2.result c.index-3.result c.index.ensures c.index-2.ensures c.index-3.ensures n.p n.q n.r n.ensures
