-- The station and the trailer that readers are handed, as the code finds them. Assumes nothing.
use mathlib.Core.Path.{◌≡◌}
use mathlib.Core.List.{List, []}
use Prim.Native.Nat.{ℕ, ◌+◌, ◌-◌, ◌≤◌, ◌<◌}
use native.Mathlib.Omega.{arith}
use lib.ListN.{take, drop}
use borrow.Author.Tests.{lt-ltb, le-ltb}
use Rattle.std.specs.Prelude.{Ok, Err}
use Rattle.refusals.specs.Answer.{Answer}
use Rattle.refusals.specs.declared.Refusal.{Refusal}
use Rattle.sheet.specs.Checker.{stations_in, opening_cause}
use Rattle.sheet_readers.specs.declared.TrailerFields.{TrailerFields}
use Rattle.sheet_readers.specs.Parts.{station_length, station_start, station_part, InTrailer, trailer_fields, sheet_trailer}

module _ (b : List ℕ) where
  -- where 16, 1 or 2 refuses
  module _ (r : Refusal) (e : opening_cause b ≡ Err r) where
    pub no_station : (i : ℕ) → ◌≡◌ {A = List ℕ} [] (station_part b i)
    unfolding station_part
    no_station i = rw e

    pub no_trailer : ◌≡◌ {A = Answer TrailerFields} (Err r) (sheet_trailer b)
    unfolding sheet_trailer
    no_trailer = rw e

  -- and where none of them does
  module _ (e : opening_cause b ≡ Ok tt) where
    pub past_stations : (i : ℕ) → stations_in b ≤ i → ◌≡◌ {A = List ℕ} [] (station_part b i)
    unfolding station_part
    past_stations i h = rw (e, le-ltb i (stations_in b) h)

    pub station_from : (i : ℕ) → i < stations_in b → (start : ℕ) → start ≡ station_start b i → take (start + station_length - start) (drop start b) ≡ station_part b i
    unfolding station_part
    station_from i h start p =
        let m : start + station_length - start ≡ station_length = omega arith in
        rw (e, lt-ltb i (stations_in b) h, m, p)

    pub trailer_given : (t : TrailerFields) → InTrailer b t → Ok t ≡ sheet_trailer b
    unfolding sheet_trailer trailer_fields
    trailer_given t p = rw (e, ← p.kind, ← p.vertices, ← p.faces, ← p.stations, ← p.magnetisation, ← p.ambient, ← p.volume)
