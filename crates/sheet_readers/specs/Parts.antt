-- What readers are handed of a sheet beside its rows: a station, the trailer, and the length by its counts. Definitions only.
use Rattle.std.specs.Prelude.{◌≡◌, ◌&&◌, cond, List, [], ℕ, ◌+◌, ◌*◌, ltb, take, drop}
use Rattle.std.specs.Float.{binary64}
use Rattle.std.specs.Float.Ieee.{of_bits}
use Rattle.std.specs.Prelude.{Ok}
use Rattle.refusals.specs.Answer.{Answer, or_answer}
use Rattle.sheet_rows.specs.Kinds.{known_kind, within_counts}
use Rattle.sheet.specs.Bytes.{trailer_length, pointer_of}
use Rattle.sheet.specs.Checker.{trailer, kind_in, vertices_in, faces_in, stations_in, volume_in, stations_start, vector_in, opening_cause, unless_refused}
use Rattle.sheet_readers.specs.declared.TrailerFields.{TrailerFields}

-- the bytes of a station, three doubles
abbrev pub station_length : ℕ
station_length = 24

module _ (b : List ℕ) where
  abbrev pub station_start : ℕ → ℕ
  station_start i = stations_start b + station_length * i

  -- station i; nothing past the last, or where 16, 1 or 2 refuses
  unfoldable pub station_part : ℕ → List ℕ
  station_part i = unless_refused (opening_cause b) (cond (ltb i (stations_in b)) (take station_length (drop (station_start i) b)) [])

  -- all that stands in the trailer but the pointer
  unfoldable pub trailer_fields : TrailerFields
  trailer_fields = record {
    kind = kind_in b;
    vertices = vertices_in b;
    faces = faces_in b;
    stations = stations_in b;
    magnetisation = vector_in b (trailer b + 16);
    ambient = vector_in b (trailer b + 40);
    volume = of_bits binary64 (volume_in b);
  }

  -- or the refusal, 16, 1 or 2
  unfoldable pub sheet_trailer : Answer TrailerFields
  sheet_trailer = or_answer (opening_cause b) (Ok trailer_fields)

-- t is what stands in the trailer, field by field
pub record InTrailer (b : List ℕ) (t : TrailerFields) : Type 0 where
  pub kind : t.kind ≡ kind_in b
  pub vertices : t.vertices ≡ vertices_in b
  pub faces : t.faces ≡ faces_in b
  pub stations : t.stations ≡ stations_in b
  pub magnetisation : t.magnetisation ≡ vector_in b (trailer b + 16)
  pub ambient : t.ambient ≡ vector_in b (trailer b + 40)
  pub volume : t.volume ≡ of_bits binary64 (volume_in b)

-- the bytes of a sheet of v vertices, f faces and s stations; 0 where 1 or 2 refuses such a kind or such counts
unfoldable pub length_of : ℕ → ℕ → ℕ → ℕ → ℕ
length_of kind v f s = cond (known_kind kind v f && within_counts v f s) (pointer_of kind v f s + trailer_length) 0
