-- `obj_reader::read_cause` meets its contract. Assumes nothing.
use Rattle.std.proofs.Common.{sym, ◌∙◌, arith}
use Rattle.std.proofs.lemmas.Bool.{not-true, not-false}
use Rattle.obj.specs.Reader.{faces_of}
use Rattle.obj_reader.proofs.ReadCauses.{many_vertices, many_faces, short_vertices, short_faces, beyond_is, named_is, largest_named}
use Rattle.obj_reader.proofs.read_cause.Goals as goal

pub returns-then-found-gt-MAX_VERTICES : goal.returns-then-found-gt-MAX_VERTICES
returns-then-found-gt-MAX_VERTICES c = many_vertices c.args.text.now c.args.found c.requires c.args.n c.args.m (omega arith)

pub returns-then-found-gt-MAX_FACES : goal.returns-then-found-gt-MAX_FACES
returns-then-found-gt-MAX_FACES c = many_faces c.args.text.now c.args.found c.requires c.args.n c.args.m (omega arith) (omega arith)

pub returns-then-n-found : goal.returns-then-n-found
returns-then-n-found c = short_vertices c.args.text.now c.args.found c.requires c.args.n c.args.m (omega arith) (omega arith) (omega arith)

pub returns-then-m-found : goal.returns-then-m-found
returns-then-m-found c = short_faces c.args.text.now c.args.found c.requires c.args.n c.args.m (omega arith) (omega arith) (omega arith) (omega arith)

pub returns-then-not-found : goal.returns-then-not-found
returns-then-not-found c = beyond_is c.args.text.now c.args.found c.requires c.args.n c.args.m (omega arith) (omega arith) (omega arith) (omega arith) (not-true _ c.if-not-found.true)

pub returns-then-found : goal.returns-then-found
returns-then-found c =
    sym (largest_named c.args.found.vertices (faces_of c.args.text.now) (omega (arith, c.requires.largest)))
    ∙ named_is c.args.text.now c.args.found c.requires c.args.n c.args.m (omega arith) (omega arith) (omega arith) (omega arith) (not-false _ c.if-not-found.false)

pub returns : goal.returns
returns c = c.no_such_vertex.ensures ∙ named_is c.args.text.now c.args.found c.requires c.args.n c.args.m (omega arith) (omega arith) (omega arith) (omega arith) (not-false _ c.if-not-found.false)
