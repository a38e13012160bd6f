-- Front, rows and trailer, written one after the other, are the sheet. Assumes nothing.
use mathlib.Core.Path.{◌≡◌, refl, sym, ap, ◌∙◌}
use mathlib.Core.List.{List, [], ◌∷◌, ◌++◌}
use Prim.Native.Nat.{ℕ, ◌+◌, ◌*◌, ◌-◌}
use native.Mathlib.Omega.{arith}
use lib.ListN.{length, replicate, length-append}
use lib.Seq.{sets}
use lib.Ieee.{Float}
use Rattle.refusals.specs.Causes.{first_of}
use Rattle.std.specs.Prelude.{Ok, Err}
use Rattle.refusals.specs.Causes.{Cause}
use Rattle.mesh_orders.specs.OrderLaws.{order-length}
use Rattle.sheet_layout.specs.LittleEndian.{pack, bits}
use Rattle.sheet_layout.specs.Parts.{Part, joined}
use Rattle.sheet_layout.proofs.Stores.{sets_then, sets_all}
use Rattle.sheet_layout.proofs.Files.{joined_length, joined-append, then_part}
use Rattle.sheet_rows.specs.Kinds.{row_width}
use Rattle.sheet.specs.Input.{SheetInput, vertex_count, face_count, station_count}
use Rattle.sheet.specs.Bytes.{trailer_length, pointer, rows, parts, sheet_bytes}
use Rattle.sheet.specs.Writer.{station_cause}
use Rattle.sheet_laws.specs.OrderAndMates.{mates-length}
use Rattle.writer_parts.specs.PartsPut.{front_parts, trailer_parts, finished}
use Rattle.writer_parts.proofs.Pieces.{bits-length, front_size}
use Rattle.writer_rows.proofs.RowLaws.{numbers_so_far}
use Rattle.writer_put_sheet.specs.Put.{sheet_or_zeros, Prepared}

module _ (s : SheetInput) (o : List ℕ) (x : Float) (l : List ℕ) (ok : Prepared s o x (length l)) where
  -- the place of the rows
  abbrev start : ℕ
  start = 8 * length s.vertices + 12 * length s.faces + 8 * length s.stations

  abbrev front : List Part
  front = front_parts s.vertices s.faces s.stations

  abbrev trailer : ℕ → List Part
  trailer at = trailer_parts s.kind (vertex_count s) (face_count s) (station_count s) s.magnetisation s.ambient x at

  room : start + 8 * row_width s.kind * station_count s + trailer_length ≡ length l
  room = omega (arith, ok.room, ok.coordinates, ok.faces.triples, ok.triples)

  module _ {o₁ o₂ : List ℕ} (size : length o₂ ≡ length l) (e₁ : o₁ ≡ sets l 0 (joined front)) where
    module _ (none : first_of (station_count s) (station_cause s) ≡ Ok tt) (e₂ : o₂ ≡ sets o₁ start (pack 8 (bits (rows s (station_count s))))) where
      abbrev up_to : List Part
      up_to = front ++ ((8, bits (rows s (station_count s))) ∷ [])

      with_rows : o₂ ≡ sets l 0 (joined up_to)
      with_rows = then_part l 0 front 8 (bits (rows s (station_count s))) start e₁ e₂ (omega (arith, front_size s.vertices s.faces s.stations))

      up_to-size : length (joined up_to) ≡ length o₂ - trailer_length
      up_to-size =
          joined_length up_to
          ∙ rw (bits-length s.vertices, bits-length s.stations, order-length s.faces, mates-length s.faces, bits-length (rows s (station_count s)), numbers_so_far s (station_count s) none)
          (omega (arith, room))

      all-parts : up_to ++ trailer (length o₂ - trailer_length) ≡ parts s
      unfolding parts
      all-parts =
          let p : length o₂ - trailer_length ≡ pointer s = omega (arith, ok.room) in
          rw (p, ok.measured)

      whole : sets o₂ (length o₂ - trailer_length) (joined (trailer (length o₂ - trailer_length))) ≡ sheet_bytes s
      unfolding sheet_bytes
      whole =
          let at = length o₂ - trailer_length in
          let t = joined (trailer at) in
          let n : length t ≡ trailer_length = joined_length (trailer at) in
          let all : length (joined up_to ++ t) ≡ length l = rw length-append (omega (arith, up_to-size, room)) in
          ap (λ (y : List ℕ). sets y at t) with_rows ∙ sets_then l 0 at (joined up_to) t (omega (arith, up_to-size)) ∙ sets_all l (joined up_to ++ t) all ∙ sym (joined-append up_to (trailer at)) ∙ ap joined all-parts

    -- the sheet, or zeros
    pub put-together : (c : Cause) {q : List ℕ} → c ≡ first_of (station_count s) (station_cause s) → (c ≡ Ok tt → o₂ ≡ sets o₁ start (pack 8 (bits (rows s (station_count s)))))
        → q ≡ finished c (trailer (length o₂ - trailer_length)) o₂ → q ≡ sheet_or_zeros s c
    unfolding finished sheet_or_zeros
    put-together (Ok _) none e₂ e₃ = e₃ ∙ whole (sym none) (e₂ refl)
    put-together (Err r) none e₂ e₃ = e₃ ∙ ap (λ (n : ℕ). replicate n 0) (size ∙ ok.room)
