-- What the exported calls on sheets take, return and write. Definitions only.
use Rattle.std.specs.Prelude.{◌≡◌, cond, List, [], ◌∷◌, ◌++◌, ℕ, ◌*◌, leb, length, get_or, take, Float}
use Rattle.newtonian.specs.Vectors.{vector_numbers}
use Rattle.mesh.specs.Check.{work_after}
use Rattle.sheet_layout.specs.LittleEndian.{unpack, doubles}
use Rattle.sheet_rows.specs.Kinds.{plain_width}
use Rattle.sheet.specs.Input.{SheetInput, input_of}
use Rattle.sheet.specs.Writer.{writer_cause, out_after}
use Rattle.sheet.specs.Checker.{check_sheet}
use Rattle.sheet.specs.Promises.{NoCause, Right, Kept}
use Rattle.writer.specs.Written.{write_sheet}
use Rattle.sheet_readers.specs.declared.TrailerFields.{TrailerFields}
use Rattle.physica_lent.specs.Exported.{vector_of, itself, GivesValues}

-- ---- the writer

-- what a sheet is made from: kind, vertices v, faces f, magnetisation m, ambient field b and stations, as lent numbers
abbrev pub sheet_input : ℕ → List Float → List ℕ → List Float → List Float → List Float → SheetInput
sheet_input kind v f m b stations = input_of kind v f (vector_of m) (vector_of b) stations

-- what `physica_write_sheet` leaves: work w has become p and out o has become q; it returns r, and has set size n to m and the refusal's values vs
pub record WritesLent (s : SheetInput) (w o p q : List ℕ) (r n m : ℕ) (vs : List ℕ) : Type 0 where
  -- in all cases
  pub answer : GivesValues itself (write_sheet s (length w) (length o)) r n m vs
  pub work : p ≡ work_after (writer_cause s (length w) (length o)) s.faces w
  pub out : q ≡ out_after s (writer_cause s (length w) (length o)) o
  -- it returns 0 exactly where no cause of refusal holds
  pub only : r ≡ 0 → NoCause s (length w) (length o)
  pub always : NoCause s (length w) (length o) → r ≡ 0
  -- and then the first bytes of out, as many as size says, are a sheet that holds, bit for bit, what was given, and that the checker accepts
  pub kept : r ≡ 0 → Kept s (take m q)

-- ---- the checker

-- what `physica_check_sheet` says of the sheet b: it returns r, and has set found, which was n, to m and the refusal's values to vs
pub record ChecksLent (b : List ℕ) (r : ℕ) (n m vs : List ℕ) : Type 0 where
  -- in all cases
  pub answer : GivesValues itself (check_sheet b) r n m vs
  -- where it returns 0 the sheet is right, with the kind and S that it found
  pub right : r ≡ 0 → Right b (get_or m 0 0) (get_or m 1 0)

-- ---- n doubles from the part of a sheet that holds them, which is empty where there are none

-- how many are handed out
abbrev pub doubles_given : ℕ → List ℕ → ℕ
doubles_given n part = cond (leb (8 * n) (length part)) n 0

abbrev pub doubles_after : ℕ → List ℕ → List Float → List Float
doubles_after n part before = cond (leb (8 * n) (length part)) (doubles (unpack 8 n part 0)) before

-- of a row, those that every kind's row has
abbrev pub numbers_given : List ℕ → ℕ
numbers_given part = doubles_given plain_width part

abbrev pub row_after : List ℕ → List Float → List Float
row_after part before = doubles_after plain_width part before

-- of a station, its coordinates
abbrev pub coordinates_given : List ℕ → ℕ
coordinates_given part = doubles_given 3 part

abbrev pub station_after : List ℕ → List Float → List Float
station_after part before = doubles_after 3 part before

-- ---- the trailer

-- kind, V, F and S
abbrev pub trailer_counts : TrailerFields → List ℕ
trailer_counts t = t.kind ∷ t.vertices ∷ t.faces ∷ t.stations ∷ []

-- magnetisation, ambient field and volume
abbrev pub trailer_numbers : TrailerFields → List Float
trailer_numbers t = vector_numbers t.magnetisation ++ vector_numbers t.ambient ++ t.volume ∷ []
