-- What `profile` answers: the fields of a closed polyhedron at a list of stations, one record of thirteen numbers for each, or document 01's refusals. `v` is the vertex list, `f` the
-- face list and `st` the list of stations, three coordinates to a station; `w` and `o` are the lengths of work and fields. Each cause of refusal carries its number in document 01.
-- What work holds afterwards is `work_after` of the mesh. Definitions only.
use Rattle.std.specs.Prelude.{cond, List, [], ◌∷◌, ◌++◌, ℕ, ◌*◌, ◌/◌, ◌%◌, eqb, leb, Float, length, drop}
use Rattle.std.specs.Prelude.{Ok, Err}
use Rattle.refusals.specs.Answer.{Answer}
use Rattle.refusals.specs.Causes.{Cause}
use Rattle.refusals.specs.Causes.{or_else, unless}
use Rattle.refusals.specs.Numbers.{number_of, place_of}
use Rattle.refusals.specs.declared.Refusal.TheVariants.{Malformed, TooMany, TooShort}
use Rattle.newtonian.specs.Vectors.{field_size}
use Rattle.newtonian.specs.declared.Newtonian.{Newtonian}
use Rattle.newtonian.specs.declared.Vector.{Vector}
use Rattle.mesh_orders.specs.Edges.{max_stations}
use Rattle.mesh.specs.Check.{surface_cause}
use Rattle.mesh.specs.Check as mesh
use Rattle.mesh.specs.Surface.{vertex}
use Rattle.polyhedron.specs.Polyhedron.{polyhedron_at}
use Rattle.profile_records.specs.Records.{first_cause, records}

-- ---- the stations

-- S
abbrev pub station_count : List Float → ℕ
station_count st = length st / 3

-- station i has three coordinates, as a vertex has
abbrev pub station_at : List Float → ℕ → Vector
station_at st i = vertex st i

-- ---- the causes of refusal

-- 1: the length of one of the three lists is not a multiple of 3
unfoldable pub malformed : List Float → List ℕ → List Float → Cause
malformed v f st = or_else (mesh.malformed v f) (unless (eqb (length st % 3) 0) Malformed)

-- 2: V, F or S is over its limit
unfoldable pub too_many : List Float → List ℕ → List Float → Cause
too_many v f st = or_else (mesh.too_many v f) (unless (leb (station_count st) max_stations) TooMany)

-- 12: work is shorter than 3F, or fields than 13 S
unfoldable pub too_short : List ℕ → List Float → ℕ → ℕ → Cause
too_short f st w o = or_else (mesh.too_short f w) (unless (leb (field_size * station_count st) o) TooShort)

-- 3: a number of the vertices, then of the stations, that is not finite, or over 10⁹
unfoldable pub out_of_limits : List Float → List Float → Cause
out_of_limits v st = or_else (mesh.out_of_limits v) (mesh.out_of_limits st)

-- 11: the first station, ascending, that the field of the checked mesh refuses. The field at station i is the single call's own, with the number i in its refusal
abbrev pub field_at : List Float → List ℕ → List Float → ℕ → Answer Newtonian
field_at v f st i = polyhedron_at i (station_at st i) v f

unfoldable pub stations_cause : List Float → List ℕ → List Float → Cause
stations_cause v f st = first_cause (field_at v f st) (station_count st)

-- ---- the causes in document 01's order: 1, 2, 12, 3, 4 to 8, and by station 11

-- all of them. `profile_cause` below is the first of this list that refuses (`causes_in_order` in ProfileLaws)
abbrev pub profile_causes : List Float → List ℕ → List Float → ℕ → ℕ → List Cause
profile_causes v f st w o =
    malformed v f st
    ∷ too_many v f st
    ∷ too_short f st w o
    ∷ out_of_limits v st
    ∷ surface_cause v f
    ∷ stations_cause v f st
    ∷ []

-- 1, 2, 12 and 3
unfoldable pub given_cause : List Float → List ℕ → List Float → ℕ → ℕ → Cause
given_cause v f st w o = or_else (malformed v f st) (or_else (too_many v f st) (or_else (too_short f st w o) (out_of_limits v st)))

-- 1, 2, 12, 3, then 4 to 8: what comes before any field
unfoldable pub input_cause : List Float → List ℕ → List Float → ℕ → ℕ → Cause
input_cause v f st w o = or_else (given_cause v f st w o) (surface_cause v f)

-- 1, 2, 12, 3, 4 to 8, then by station 11
unfoldable pub profile_cause : List Float → List ℕ → List Float → ℕ → ℕ → Cause
profile_cause v f st w o = or_else (input_cause v f st w o) (stations_cause v f st)

-- ---- the list of fields

-- how many records are filled, of s stations: all after no refusal, i after 11 at station i, 0 after every other. Where the stations are reached, that is how many come before the first
-- that is refused (`filled_agrees` in StationLaws)
unfoldable pub filled : Cause → ℕ → ℕ
filled (Ok _) s = s
filled (Err r) s = cond (eqb (number_of r) 11) (place_of r) 0

-- the entries of fields, which were l: the filled records, one after the other; those past them never change
unfoldable pub fields_after : Cause → List Float → List ℕ → List Float → List Float → List Float
fields_after c v f st l =
    let n = filled c (station_count st) in
    records (field_at v f st) n ++ drop (field_size * n) l
