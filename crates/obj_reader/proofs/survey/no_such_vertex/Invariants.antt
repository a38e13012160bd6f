-- `obj_reader::survey::no_such_vertex` meets its contract: the corners of the faces so far name vertices. Assumes nothing.
use Rattle.std.proofs.Common.{length}
use Rattle.obj_reader.proofs.Naming.{NamesUpto}
use Rattle.obj_reader.proofs.survey.no_such_vertex.Given as goal

abbrev pub invariant-loop-bytes : goal.invariant-loop-bytes
invariant-loop-bytes l = NamesUpto l.vertices l.text (length l.yielded) l.k
