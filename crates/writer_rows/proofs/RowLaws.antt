-- Rows that are written one after the other, up to the first that is refused. Assumes nothing.
use mathlib.Core.Path.{◌≡◌, refl, sym, ap, ◌∙◌, subst}
use mathlib.Core.Bool.{Bool}
use mathlib.Core.List.{List, map-append}
use mathlib.Core.Logic.{⊎_elim}
use Prim.Native.Nat.{ℕ, zero, suc, ◌+◌, ◌*◌, ◌<◌}
use native.Mathlib.Nat.{eq-or-lt_of_le, le_of_suc-le-suc}
use native.Mathlib.Numerals.{add-one}
use native.Mathlib.Omega.{arith}
use lib.ListN.{length, length-map}
use lib.Seq.{sets}
use lib.Ieee.{Float, binary64, to_bits}
use Rattle.std.specs.Prelude.{Ok, Err}
use Rattle.refusals.specs.Answer.{Answer}
use Rattle.refusals.specs.Causes.{Cause}
use Rattle.refusals.specs.Causes.{unless, cause_or, first_of}
use Rattle.refusals.specs.declared.Refusal.{Refusal}
use Rattle.refusals.specs.declared.Refusal.TheVariants.{NotFinite}
use Rattle.refusals.proofs.Causes.{each, stop}
use Rattle.newtonian.specs.declared.Newtonian.{Newtonian}
use Rattle.newtonian.specs.declared.Vector.{Vector}
use Rattle.mesh.specs.Surface.{vertex}
use Rattle.sheet_layout.specs.LittleEndian.{pack, bits}
use Rattle.sheet_layout.proofs.Stores.{sets_then}
use Rattle.sheet_layout.proofs.Lists.{pack-append, pack-length}
use Rattle.sheet_rows.specs.Kinds.{row_width}
use Rattle.sheet_rows.specs.Row.{field_at, in_row, row_numbers, is_finite_row, row_cause}
use Rattle.sheet_rows.proofs.RowMade.{row_made}
use Rattle.sheet_rows.specs.declared.Row.{Row}
use Rattle.sheet.specs.Input.{SheetInput, input_of, station_count, row_at}
use Rattle.sheet.specs.Bytes.{numbers_of, rows}
use Rattle.sheet.specs.Writer.{station_cause}
use Rattle.sheet_laws.specs.Reading.{rows-length}
use Rattle.writer_rows.specs.Rows.{RowPut, count_before, RowsPut}

pub not_none : (r : Refusal) → ◌≡◌ {A = Cause} (Err r) (Ok tt) → ⊥
not_none r e = let z : ◌≡◌ {A = ℕ} 0 1 = cc in omega arith

-- the row of station i is that of its field
pub row_is : (kind i : ℕ) (m b : Vector) (v : List Float) (f : List ℕ) (st : List Float) (q : Answer Newtonian) → q ≡ field_at kind i (vertex st i) v f
    → in_row kind m b q ≡ row_at (input_of kind v f m b st) i
unfolding row_at
row_is kind i m b v f st q e = row_made kind i m b (vertex st i) v f q e

module _ (s : SheetInput) (i : ℕ) where
  -- the station's cause, of a field that was given or refused
  pub of_row : (row : Row) (b : Bool) → Ok row ≡ row_at s i → is_finite_row s.kind row ≡ b → unless b (NotFinite i) ≡ station_cause s i
  unfolding station_cause row_cause
  of_row row b e f = rw (← e, f)

  pub of_refused : (r : Refusal) → Err r ≡ row_at s i → Err r ≡ station_cause s i
  unfolding station_cause row_cause
  of_refused r e = rw (← e)

  numbers-length : (a : Answer Row) → row_cause s.kind i a ≡ Ok tt → length (numbers_of s a) ≡ row_width s.kind
  unfolding row_cause row_numbers
  numbers-length (Ok row) e = refl
  numbers-length (Err r) e = absurd (not_none r e)

  pub row-length : station_cause s i ≡ Ok tt → length (numbers_of s (row_at s i)) ≡ row_width s.kind
  unfolding station_cause
  row-length e = numbers-length (row_at s i) e

module _ (s : SheetInput) (k : ℕ) (none : first_of k (station_cause s) ≡ Ok tt) where
  pub numbers_so_far : length (rows s k) ≡ row_width s.kind * k
  numbers_so_far = rows-length s (row_width s.kind) k (λ i l. row-length s i (each k (station_cause s) none i l))

  bytes_so_far : length (pack 8 (bits (rows s k))) ≡ 8 * row_width s.kind * k
  bytes_so_far = let n = length-map (rows s k) (to_bits binary64) ∙ numbers_so_far in pack-length 8 (bits (rows s k)) ∙ omega (arith, n)

  -- one more row, right after the others
  pub next : (l : List ℕ) (at p : ℕ) {o q : List ℕ} → p ≡ at + 8 * row_width s.kind * k → o ≡ sets l at (pack 8 (bits (rows s k)))
      → q ≡ sets o p (pack 8 (bits (numbers_of s (row_at s k)))) → q ≡ sets l at (pack 8 (bits (rows s (k + 1))))
  unfolding rows
  next l at p h e f =
      let row = numbers_of s (row_at s k) in
      f ∙ ap (λ (x : List ℕ). sets x p (pack 8 (bits row))) e
      ∙ sets_then l at p (pack 8 (bits (rows s k))) (pack 8 (bits row)) (h ∙ ap (λ (n : ℕ). at + n) (sym bytes_so_far))
      ∙ ap (sets l at)
      (sym (ap (λ (n : ℕ). pack 8 (bits (rows s n))) (add-one k) ∙ ap (pack 8) (map-append (to_bits binary64) (rows s k) row) ∙ pack-append 8 (bits (rows s k)) (bits row)))

-- ---- how many stations come before the first refused one

pub count-all : (n : ℕ) (c : ℕ → Cause) → first_of n c ≡ Ok tt → count_before n c ≡ n
unfolding count_before
count-all zero c e = refl
count-all (suc n) c e = rw e

count-first : (n i : ℕ) (c : ℕ → Cause) (r : Refusal) → i < n → first_of i c ≡ Ok tt → c i ≡ Err r → count_before n c ≡ i
unfolding count_before
count-first zero i c r l p q = absurd (omega arith)
count-first (suc n) i c r l p q =
    ap (λ (d : Cause). cause_or (λ x. count_before n c) d (suc n)) (stop (suc n) i c r l p q)
    ∙ ⊎_elim (λ e. count-all n c (subst (λ (k : ℕ). first_of k c ≡ Ok tt) e p) ∙ sym e) (λ m. count-first n i c r m p q) (eq-or-lt_of_le (le_of_suc-le-suc l))

-- ---- what is written, or left

-- a row that is not refused is written, and after a refusal the bytes are as they were
module _ (s : SheetInput) (i at : ℕ) {c : Cause} {o p : List ℕ} (h : RowPut s i at c o p) where
  pub row_written : c ≡ Ok tt → p ≡ sets o at (pack 8 (bits (numbers_of s (row_at s i))))
  row_written e = h.bytes ∙ ap (λ (d : Cause). cause_or (λ q. o) d (sets o at (pack 8 (bits (numbers_of s (row_at s i)))))) e

  pub row-left : (r : Refusal) → c ≡ Err r → p ≡ o
  row-left r e = h.bytes ∙ ap (λ (d : Cause). cause_or (λ q. o) d (sets o at (pack 8 (bits (numbers_of s (row_at s i)))))) e

-- where none is refused, all rows are written
pub none-refused : (s : SheetInput) (at : ℕ) {r : Cause} {o p : List ℕ} → RowsPut s at r o p → r ≡ Ok tt → p ≡ sets o at (pack 8 (bits (rows s (station_count s))))
none-refused s at {o = o} h e =
    h.bytes ∙ ap (λ (n : ℕ). sets o at (pack 8 (bits (rows s n)))) (count-all (station_count s) (station_cause s) (sym h.cause ∙ e))

-- station i is refused, and the rows before it are written
pub up_to-refused : (s : SheetInput) (l : List ℕ) (at i : ℕ) (r : Refusal) {o : List ℕ} → i < station_count s → first_of i (station_cause s) ≡ Ok tt
    → station_cause s i ≡ Err r → o ≡ sets l at (pack 8 (bits (rows s i))) → RowsPut s at (Err r) l o
up_to-refused s l at i r m p q e = record {
  cause = sym (stop (station_count s) i (station_cause s) r m p q);
  bytes = e ∙ ap (λ (n : ℕ). sets l at (pack 8 (bits (rows s n)))) (sym (count-first (station_count s) i (station_cause s) r m p q));
}

-- all rows are written
pub all-rows : (s : SheetInput) (l : List ℕ) (at i : ℕ) {o : List ℕ} → i ≡ station_count s → first_of i (station_cause s) ≡ Ok tt → o ≡ sets l at (pack 8 (bits (rows s i)))
    → RowsPut s at (Ok tt) l o
all-rows s l at i e p q =
    let none = subst (λ (m : ℕ). first_of m (station_cause s) ≡ Ok tt) e p in
    record { cause = sym none; bytes = q ∙ ap (λ (m : ℕ). sets l at (pack 8 (bits (rows s m)))) (e ∙ sym (count-all (station_count s) (station_cause s) none)) }
