-- `obj_reader::survey::survey` meets its contract: what is found is what the lines so far have. Assumes nothing.
use Rattle.std.proofs.Common.{length}
use Rattle.obj_reader.proofs.Surveying.{SurveyUpto}
use Rattle.obj_reader.proofs.survey.survey.Given as goal

abbrev pub invariant-loop-bytes : goal.invariant-loop-bytes
invariant-loop-bytes l = SurveyUpto l.text (length l.yielded) l.found
