-- The answers of `lengths_cause`, return by return. Assumes nothing.
use mathlib.Core.Path.{◌≡◌}
use mathlib.Core.Bool.{true, false}
use Prim.Native.Nat.{ℕ, ◌+◌, ◌/◌, ◌≤◌, ◌<◌}
use borrow.Author.Tests.{le-leb, lt-leb}
use Rattle.refusals.specs.declared.Refusal.TheVariants.{Malformed, TooMany, TooShort}
use Rattle.std.specs.Prelude.{Ok, Err}
use Rattle.sheet_rows.specs.Kinds.{within_counts}
use Rattle.sheet.specs.Input.{SheetInput}
use Rattle.sheet.specs.Bytes.{trailer_length, pointer_of}
use Rattle.sheet.specs.Writer.{malformed, too_many, too_short}
use Rattle.writer_causes.specs.LengthsCause.{well_formed, Lengths, lengths_cause}

module _ (w o kind v f n : ℕ) where
  pub not-well_formed : well_formed kind v f n ≡ false → (s : SheetInput) → Lengths s kind v f n → Err Malformed ≡ lengths_cause s w o
  unfolding malformed
  not-well_formed p s h = rw (h.kind, h.vertices, h.faces, h.stations, p)

  module _ (p : well_formed kind v f n ≡ true) where
    pub not-few : within_counts (v / 3) (f / 3) (n / 3) ≡ false → (s : SheetInput) → Lengths s kind v f n → Err TooMany ≡ lengths_cause s w o
    unfolding malformed too_many
    not-few q s h = rw (h.kind, h.vertices, h.faces, h.stations, p, q)

    module _ (q : within_counts (v / 3) (f / 3) (n / 3) ≡ true) where
      pub short_work : w < f → (s : SheetInput) → Lengths s kind v f n → Err TooShort ≡ lengths_cause s w o
      unfolding malformed too_many too_short
      short_work l s h = rw (h.kind, h.vertices, h.faces, h.stations, p, q, lt-leb f w l)

      pub short_out : f ≤ w → o < pointer_of kind (v / 3) (f / 3) (n / 3) + trailer_length → (s : SheetInput) → Lengths s kind v f n → Err TooShort ≡ lengths_cause s w o
      unfolding malformed too_many too_short
      short_out l m s h = rw (h.kind, h.vertices, h.faces, h.stations, p, q, le-leb f w l, lt-leb (pointer_of kind (v / 3) (f / 3) (n / 3) + trailer_length) o m)

      pub counted : f ≤ w → pointer_of kind (v / 3) (f / 3) (n / 3) + trailer_length ≤ o → (s : SheetInput) → Lengths s kind v f n → Ok tt ≡ lengths_cause s w o
      unfolding malformed too_many too_short
      counted l m s h = rw (h.kind, h.vertices, h.faces, h.stations, p, q, le-leb f w l, le-leb (pointer_of kind (v / 3) (f / 3) (n / 3) + trailer_length) o m)
