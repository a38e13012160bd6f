-- The row of a station, as it is computed from what was read, and the causes 10 or 11, 13 and 20 of it. Assumes nothing.
use mathlib.Core.Path.{◌≡◌, sym, ap₂, ◌∙◌}
use mathlib.Core.Bool.{true, false}
use mathlib.Core.List.{List}
use Prim.Native.Nat.{ℕ, ◌+◌, ◌*◌, ◌<◌}
use lib.Ieee.{Float}
use Rattle.std.specs.Prelude.{Ok, Err}
use Rattle.refusals.specs.Answer.{Answer}
use Rattle.refusals.specs.declared.Refusal.{Refusal}
use Rattle.refusals.specs.declared.Refusal.TheVariants.{WrongRow}
use Rattle.newtonian.specs.declared.Newtonian.{Newtonian}
use Rattle.newtonian.specs.declared.Vector.{Vector}
use Rattle.mesh.specs.Surface.{vertex}
use Rattle.sheet_layout.specs.LittleEndian.{unpack, bits}
use Rattle.sheet_rows.specs.Kinds.{row_width}
use Rattle.sheet_rows.specs.Row as row
use Rattle.sheet_rows.specs.Row.{field_at, in_row}
use Rattle.sheet_rows.proofs.RowMade.{row_made}
use Rattle.sheet_rows.specs.declared.Row.{Row}
use Rattle.sheet.specs.Input.{row_at}
use Rattle.sheet.specs.Writer.{station_cause}
use Rattle.sheet.specs.Checker.{kind_in, stations_in, stations_start, row_start, vector_in, parse, same_numbers, wrong_row, check_station}
use Rattle.sheet_laws.specs.Reading.{kind_read}
use Rattle.sheet_readers.specs.Parts.{InTrailer}
use Rattle.sheet_readers.specs.declared.TrailerFields.{TrailerFields}
use Rattle.checker_scans.proofs.Read.{vertex_read}
use Rattle.checker_stations.specs.FieldIn.{field_in}

-- what was read of the trailer is what the sheet was made from
module _ (b : List ℕ) {t : TrailerFields} (r : InTrailer b t) where
  pub read_magnetisation : t.magnetisation ≡ (parse b).magnetisation
  unfolding parse
  read_magnetisation = r.magnetisation

  pub read_ambient : t.ambient ≡ (parse b).ambient
  unfolding parse
  read_ambient = r.ambient

module _ (b : List ℕ) (i : ℕ) where
  pub row_is : (m a : Vector) (q : Answer Newtonian) → m ≡ (parse b).magnetisation → a ≡ (parse b).ambient → q ≡ field_in b i → in_row (kind_in b) m a q ≡ row_at (parse b) i
  unfolding row_at parse
  row_is m a q em ea e = row_made (kind_in b) i m a (vertex (parse b).stations i) (parse b).vertices (parse b).faces q e ∙ rw (em, ea)

  pub field_is : (kind : ℕ) (p : Vector) (v : List Float) (f : List ℕ) → kind ≡ kind_in b → p ≡ vertex (parse b).stations i → v ≡ (parse b).vertices → f ≡ (parse b).faces
      → field_at kind i p v f ≡ field_in b i
  field_is kind p v f ek ep ev ef = rw (ek, ep, ev, ef)

  -- the place of a station
  pub place_is : (p : Vector) → i < stations_in b → p ≡ vector_in b (stations_start b + 24 * i) → p ≡ vertex (parse b).stations i
  unfolding parse
  place_is p l e = e ∙ sym (vertex_read b (stations_start b) (stations_in b) i l)

  -- a refused row has no numbers to compare
  pub no_row : (r : Refusal) → Err r ≡ row_at (parse b) i → Err r ≡ check_station b (parse b) i
  unfolding check_station station_cause row.row_cause
  no_row r w = rw (← w)

  module _ (r : Row) (w : Ok r ≡ row_at (parse b) i) where
    cause-is : station_cause (parse b) i ≡ row.row_cause (kind_in b) i (Ok r)
    unfolding station_cause
    cause-is = ap₂ (λ (k : ℕ) (x : Answer Row). row.row_cause k i x) (kind_read b) (sym w)

    pub refused-by : (x : Refusal) → row.row_cause (kind_in b) i (Ok r) ≡ Err x → Err x ≡ check_station b (parse b) i
    unfolding check_station
    refused-by x e = rw (cause-is ∙ e)

    module _ (e : row.row_cause (kind_in b) i (Ok r) ≡ Ok tt) where
      pub same_bits : same_numbers (unpack 8 (row_width (kind_in b)) b (row_start b i)) (bits (row.row_numbers (kind_in b) r)) ≡ true → Ok tt ≡ check_station b (parse b) i
      unfolding check_station wrong_row
      same_bits t = rw (cause-is ∙ e, sym w, kind_read b, t)

      pub other-bits : same_numbers (unpack 8 (row_width (kind_in b)) b (row_start b i)) (bits (row.row_numbers (kind_in b) r)) ≡ false → Err (WrongRow i) ≡ check_station b (parse b) i
      unfolding check_station wrong_row
      other-bits t = rw (cause-is ∙ e, sym w, kind_read b, t)
