-- `obj_reader::store::store` meets its contract: the lists begin with the numbers of the lines so far. Assumes nothing.
use Rattle.std.proofs.Common.{length}
use Rattle.obj_reader.proofs.Storing.{StoresUpto}
use Rattle.obj_reader.proofs.store.store.Given as goal

abbrev pub invariant-loop-bytes : goal.invariant-loop-bytes
invariant-loop-bytes l = StoresUpto l.text l.fn.verts l.fn.faces (length l.yielded) l.verts l.faces l.v l.f
