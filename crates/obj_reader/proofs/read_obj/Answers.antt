-- `obj_reader::read_obj` meets its contract. Assumes nothing.
use Rattle.std.proofs.Common.{length, sym, ◌∙◌, arith}
use Rattle.std.proofs.lemmas.Result.{err_from_is_err_and}
use Rattle.obj_reader.proofs.Answer.{by_text, by_mesh, refused_answer, refused_list, read_answer, read_list, storable, counts_fit}
use Rattle.obj_reader.proofs.read_obj.Goals as goal

pub returns-in_err-found-clause-answer : goal.returns-in_err-found-clause-answer
returns-in_err-found-clause-answer c =
    let p = err_from_is_err_and c.from_residual.result c.from_residual.ensures.1 in
    rw (p.1, p.2) (refused_answer c.args.text.now (length c.args.verts.now) (length c.args.faces.now) _ (by_text c.args.text.now (length c.args.verts.now) (length c.args.faces.now) _ c.in_err-found.ensures))

pub returns-in_err-found-clause-verts : goal.returns-in_err-found-clause-verts
returns-in_err-found-clause-verts c = refused_list _ _ _ _ (by_text c.args.text.now (length c.args.verts.now) (length c.args.faces.now) _ c.in_err-found.ensures)

pub returns-in_err-found-clause-faces : goal.returns-in_err-found-clause-faces
returns-in_err-found-clause-faces c = refused_list _ _ _ _ (by_text c.args.text.now (length c.args.verts.now) (length c.args.faces.now) _ c.in_err-found.ensures)

pub returns-in_err-read_cause-clause-answer : goal.returns-in_err-read_cause-clause-answer
returns-in_err-read_cause-clause-answer c =
    let p = err_from_is_err_and c.from_residual-in_err-read_cause.result c.from_residual-in_err-read_cause.ensures.1 in
    rw (p.1, p.2) (refused_answer c.args.text.now (length c.args.verts.now) (length c.args.faces.now) _ (by_mesh c.args.text.now (length c.args.verts.now) (length c.args.faces.now) _ c.in_ok-found.ensures.free (sym (c.read_cause.ensures) ∙ c.in_err-read_cause.was)))

pub returns-in_err-read_cause-clause-verts : goal.returns-in_err-read_cause-clause-verts
returns-in_err-read_cause-clause-verts c = refused_list _ _ _ _ (by_mesh c.args.text.now (length c.args.verts.now) (length c.args.faces.now) _ c.in_ok-found.ensures.free (sym (c.read_cause.ensures) ∙ c.in_err-read_cause.was))

pub returns-in_err-read_cause-clause-faces : goal.returns-in_err-read_cause-clause-faces
returns-in_err-read_cause-clause-faces c = refused_list _ _ _ _ (by_mesh c.args.text.now (length c.args.verts.now) (length c.args.faces.now) _ c.in_ok-found.ensures.free (sym (c.read_cause.ensures) ∙ c.in_err-read_cause.was))

-- ---- a text without cause

pub store-requires : goal.store-requires
store-requires c = storable c.args.text.now c.in_ok-found.found _ _ c.in_ok-found.ensures (sym c.read_cause.ensures ∙ c.in_ok-read_cause.was)

pub overflow_cast-result : goal.overflow_cast-result
overflow_cast-result c = let f = counts_fit c.args.text.now c.in_ok-found.found _ _ c.in_ok-found.ensures (sym c.read_cause.ensures ∙ c.in_ok-read_cause.was) in omega (arith, f.0)

pub overflow_cast-result-2 : goal.overflow_cast-result-2
overflow_cast-result-2 c = let f = counts_fit c.args.text.now c.in_ok-found.found _ _ c.in_ok-found.ensures (sym c.read_cause.ensures ∙ c.in_ok-read_cause.was) in omega (arith, f.1)

pub returns-clause-answer : goal.returns-clause-answer
returns-clause-answer c =
    read_answer c.args.text.now (length c.args.verts.now) (length c.args.faces.now) c.in_ok-found.found (by_mesh c.args.text.now (length c.args.verts.now) (length c.args.faces.now) _ c.in_ok-found.ensures.free (sym c.read_cause.ensures ∙ c.in_ok-read_cause.was)) c.in_ok-found.ensures

pub returns-clause-verts : goal.returns-clause-verts
returns-clause-verts c = read_list _ _ _ _ (by_mesh c.args.text.now (length c.args.verts.now) (length c.args.faces.now) _ c.in_ok-found.ensures.free (sym c.read_cause.ensures ∙ c.in_ok-read_cause.was)) c.store.ensures.verts

pub returns-clause-faces : goal.returns-clause-faces
returns-clause-faces c = read_list _ _ _ _ (by_mesh c.args.text.now (length c.args.verts.now) (length c.args.faces.now) _ c.in_ok-found.ensures.free (sym c.read_cause.ensures ∙ c.in_ok-read_cause.was)) c.store.ensures.faces
