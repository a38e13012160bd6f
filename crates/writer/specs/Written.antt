-- What `write_sheet` answers and leaves in work and out, and what demand 3 says of it. Definitions only.
use Rattle.std.specs.Prelude.{◌≡◌, List, ℕ, Ok, length, take}
use Rattle.refusals.specs.Answer.{Answer, or_answer}
use Rattle.mesh.specs.Check.{work_after}
use Rattle.sheet.specs.Input.{SheetInput}
use Rattle.sheet.specs.Bytes.{sheet_size}
use Rattle.sheet.specs.Writer.{writer_cause, out_after}
use Rattle.sheet.specs.Promises.{NoCause, Kept}

-- the first cause of refusal, for the lengths w of work and o of out, or the sheet's length
unfoldable pub write_sheet : SheetInput → ℕ → ℕ → Answer ℕ
write_sheet s w o = or_answer (writer_cause s w o) (Ok (sheet_size s))

-- The sheet of s was asked for. The answer is r; work, which was w, has become p, and out, which was o, has become q.
pub record Writes (s : SheetInput) (w o : List ℕ) (r : Answer ℕ) (p q : List ℕ) : Type 0 where
  -- in all cases
  pub answer : r ≡ write_sheet s (length w) (length o)
  pub work : p ≡ work_after (writer_cause s (length w) (length o)) s.faces w
  pub out : q ≡ out_after s (writer_cause s (length w) (length o)) o
  -- it is written exactly where no cause of refusal holds
  pub only : (n : ℕ) → r ≡ Ok n → NoCause s (length w) (length o)
  pub always : NoCause s (length w) (length o) → r ≡ Ok (sheet_size s)
  -- and then the first bytes of out are a sheet that holds, bit for bit, what was given, and that the checker accepts
  pub kept : (n : ℕ) → r ≡ Ok n → Kept s (take (sheet_size s) q)
