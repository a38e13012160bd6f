-- Demand 3, as one statement of the definitions of the writer and the checker. Definitions only; crate sheet_laws proves it (`demand_3`), and the contracts of
-- `write_sheet` and `check_sheet` carry it.
use Rattle.std.specs.Prelude.{◌≡◌, List, [], ◌∷◌, ◌↔◌, ℕ, length}
use Rattle.std.specs.Prelude.{Ok}
use Rattle.sheet_layout.specs.LittleEndian.{IsBytes}
use Rattle.sheet.specs.Input.{SheetInput}
use Rattle.sheet.specs.Bytes.{sheet_size, sheet_bytes}
use Rattle.sheet.specs.Writer.{writer_cause}
use Rattle.sheet.specs.Checker.{checker_cause, check_sheet}
use Rattle.sheet.specs.Promises.{NoCause, Right, SameGiven, Typed, Kept}

pub record Demand3 : Type 0 where
  -- the writer writes exactly where no cause of its order holds; w and o are the lengths of work and out
  pub writes_exactly : (s : SheetInput) (w o : ℕ) → (writer_cause s w o ≡ Ok tt) ↔ NoCause s w o
  -- what the checker accepts is right, with the kind and S that it gives
  pub accepted-right : (b : List ℕ) → IsBytes b → (k n : ℕ) → check_sheet b ≡ Ok (k ∷ n ∷ []) → Right b k n
  -- two accepted sheets that agree bit for bit in kind, body, magnetisation, ambient field and stations are the same in every byte
  pub alone : (b c : List ℕ) → IsBytes b → IsBytes c → checker_cause b ≡ Ok tt → checker_cause c ≡ Ok tt → SameGiven b c → b ≡ c
  -- what the writer writes has the length it says, holds bit for bit what was given, and is accepted
  pub sheet_length : (s : SheetInput) (w o : ℕ) → Typed s → writer_cause s w o ≡ Ok tt → length (sheet_bytes s) ≡ sheet_size s
  pub kept : (s : SheetInput) (w o : ℕ) → Typed s → writer_cause s w o ≡ Ok tt → Kept s (sheet_bytes s)
