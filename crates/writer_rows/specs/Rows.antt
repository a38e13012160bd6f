-- What the functions that write rows leave in the bytes o, which become p, beside the cause r that they give. Definitions only.
use Rattle.std.specs.Prelude.{◌≡◌, List, ℕ, zero, suc, ◌+◌, ◌≤◌, ◌<◌, Float, get_or}
use Rattle.std.proofs.lemmas.List.Edits.{sets}
use Rattle.refusals.specs.Causes.{cause_or, first_of}
use Rattle.refusals.specs.declared.Refusal.{Refusal}
use Rattle.std.specs.Prelude.{Ok, Err}
use Rattle.refusals.specs.Answer.{Answer}
use Rattle.refusals.specs.Causes.{Cause}
use Rattle.newtonian.specs.declared.Newtonian.{Newtonian}
use Rattle.mesh.specs.Surface.{vertex}
use Rattle.polyhedron_fields.specs.BlockFields.{no_field}
use Rattle.sheet_rows.specs.Row.{field_at}
use Rattle.sheet_layout.specs.LittleEndian.{pack, bits}
use Rattle.sheet.specs.Input.{SheetInput, station_count, row_at}
use Rattle.sheet.specs.Bytes.{numbers_of, rows}
use Rattle.sheet.specs.Writer.{station_cause}

-- the row of station i at place at; after a refusal the bytes are as they were
pub record RowPut (s : SheetInput) (i at : ℕ) (r : Cause) (o p : List ℕ) : Type 0 where
  pub cause : r ≡ station_cause s i
  pub bytes : p ≡ cause_or (λ q. o) r (sets o at (pack 8 (bits (numbers_of s (row_at s i)))))

-- how many of the causes c 0, c 1, .., c (n - 1) come before the first that refuses: n where none does
unfoldable pub count_before : ℕ → (ℕ → Cause) → ℕ
count_before zero c = zero
count_before (suc n) c = cause_or (λ q. count_before n c) (first_of (suc n) c) (suc n)

-- the rows from place at on, up to the first that is refused; the other bytes are as they were
pub record RowsPut (s : SheetInput) (at : ℕ) (r : Cause) (o p : List ℕ) : Type 0 where
  pub cause : r ≡ first_of (station_count s) (station_cause s)
  pub bytes : p ≡ sets o at (pack 8 (bits (rows s (count_before (station_count s) (station_cause s)))))

-- ---- between two blocks of stations

-- the list q has the fields of the n stations from the one with the number first on; v is the vertex list, f the face list and st the stations
pub record FieldsAt (kind first n : ℕ) (v : List Float) (f : List ℕ) (st : List Float) (q : List (Answer Newtonian)) : Type 0 where
  pub at : (j : ℕ) → j < n → get_or q j no_field ≡ field_at kind (first + j) (vertex st (first + j)) v f

-- the first k stations are not refused, and their rows stand from place at on
pub record RowsUpTo (s : SheetInput) (at k : ℕ) (o p : List ℕ) : Type 0 where
  pub none : first_of k (station_cause s) ≡ Ok tt
  pub bytes : p ≡ sets o at (pack 8 (bits (rows s k)))

-- what follows once the cause r of the stations up to k is known: their rows stand there, or the rows are done
pub record BlockPut (s : SheetInput) (at k : ℕ) (r : Cause) (o p : List ℕ) : Type 0 where
  pub on : r ≡ Ok tt → RowsUpTo s at k o p
  pub over : (q : Refusal) → r ≡ Err q → k ≤ station_count s → RowsPut s at r o p
