-- What `check_body` answers, and leaves in work and in the bytes for the mates. Definitions only.
use Rattle.std.specs.Prelude.{◌≡◌, List, ℕ, Float}
use Rattle.refusals.specs.Causes.{or_else}
use Rattle.refusals.specs.Answer.{Answer}
use Rattle.refusals.specs.Causes.{Cause}
use Rattle.mesh.specs.Check.{solid_of, work_after}
use Rattle.mesh_check.specs.CheckedMates.{mates_after}
use Rattle.sheet.specs.Input.{SheetInput}
use Rattle.sheet.specs.Bytes.{volume}
use Rattle.sheet.specs.Writer.{no_such_vertex, body_cause}

-- 4, then 5, 6, 7 and 8 of a mesh, or 9 of a prism
abbrev pub check_body_cause : SheetInput → Cause
check_body_cause s = or_else (no_such_vertex s) (body_cause s)

-- the answer is r; work, which was w, has become p, and the bytes for the mates, which were m, have become q
pub record BodyChecked (s : SheetInput) (w m : List ℕ) (r : Answer Float) (p q : List ℕ) : Type 0 where
  pub answer : r ≡ solid_of (check_body_cause s) (volume s)
  pub work : p ≡ work_after (check_body_cause s) s.faces w
  pub mates : q ≡ mates_after (check_body_cause s) s.faces m
