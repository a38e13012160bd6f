-- `obj_lines::vertex` meets its contract. Assumes nothing.
use Rattle.std.proofs.Common.{ap, ◌∙◌}
use Rattle.std.specs.Prelude.{Err}
use Rattle.std.proofs.lemmas.Option.{MatchOption-at_none, MatchOption-at_some}
use Rattle.std.proofs.lemmas.Result.{err_from_is_err_and}
use Rattle.obj.specs.Text.{fields}
use Rattle.obj_lines.proofs.Three.{none_there, some}
use Rattle.obj_lines.proofs.ThreeFields.{few_given, vertex_other, vertex_cause, vertex_holds}
use Rattle.obj_lines.proofs.vertex.Goals as goal

pub returns-in_err-x : goal.returns-in_err-x
returns-in_err-x c =
    let p = err_from_is_err_and c.from_residual.result c.from_residual.ensures.1 in
    let n = none_there c.three_fields.result _ c.in_err-x.ensures.value in
    rw (p.1, p.2) (vertex_other (fields c.args.text.now) (MatchOption-at_none _ _ n.0 c.three_fields.ensures) ∙ ap Err n.1)

pub returns-in_err-p : goal.returns-in_err-p
returns-in_err-p c =
    let p = err_from_is_err_and c.from_residual-in_err-p.result c.from_residual-in_err-p.ensures.1 in
    let are = MatchOption-at_some _ _ _ (some c.three_fields.result _ c.in_ok-x.ensures.value) c.three_fields.ensures in
    rw (p.1, p.2) (vertex_cause _ _ _ _ are c.number.result c.number-2.result c.number-3.result c.number.ensures c.number-2.ensures c.number-3.ensures ∙ c.in_err-p.ensures)

pub value-requires : goal.value-requires
value-requires c = let n = c.in_ok-p in (few_given n.p n.q n.r n.ensures).0

pub value-requires-2 : goal.value-requires-2
value-requires-2 c = let n = c.in_ok-p in (few_given n.p n.q n.r n.ensures).1

pub value-requires-3 : goal.value-requires-3
value-requires-3 c = let n = c.in_ok-p in (few_given n.p n.q n.r n.ensures).2

pub returns : goal.returns
returns c =
    let n = c.in_ok-p in
    let are = MatchOption-at_some _ _ _ (some c.three_fields.result _ c.in_ok-x.ensures.value) c.three_fields.ensures in
    vertex_holds _ _ _ _ are c.number.result c.number-2.result c.number-3.result c.number.ensures c.number-2.ensures c.number-3.ensures n.p n.q n.r n.ensures
    c.value.result c.value-2.result c.value-3.result c.value.ensures c.value-2.ensures c.value-3.ensures
