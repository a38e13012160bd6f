-- A step towards `ProfileLaws`: how many records are filled, and the causes and the list of fields by the parts that the code tries one after the other. States:
-- `refused-input`, `past_input`: a cause before any field is the answer, and where there is none, the stations' cause is;
-- `fields_as_they_were`: after one of 1 to 8 and 12 the list of fields is as it was;
-- `fields_of_stations`: where there is none of them, it is the list of the stations' records up to the first that is refused, as profile_records defines it;
-- `done`: so a call over the stations gives the profile's answer;
-- `is-filled`: the records that are filled are those of stations that all have values, of a mesh of which no such cause holds. Assumes nothing.
use Rattle.std.specs.Prelude.{◌≡◌, Bool, cond, List, ◌++◌, ℕ, ◌*◌, ◌≤◌, ◌<◌, Float}
use Rattle.std.proofs.Math.Path.{refl, sym, ap}
use Rattle.std.proofs.Common.{◌∙◌, ⊎_elim, arith, ne_eqb}
use Rattle.std.proofs.Math.ListN.{drop}
use Rattle.refusals.specs.Causes.{or_else, first_of}
use Rattle.refusals.specs.Numbers.{number_of, place_of}
use Rattle.std.specs.Prelude.{Ok, Err}
use Rattle.refusals.specs.Causes.{Cause}
use Rattle.refusals.specs.declared.Refusal.{Refusal}
use Rattle.refusals.specs.declared.Refusal.TheVariants.{TooManyEdges}
use Rattle.newtonian.specs.Vectors.{field_size}
use Rattle.polyhedron.specs.PolyhedronLaws.{InputRefusal}
use Rattle.profile_records.specs.Records.{Done, first_cause, records}
use Rattle.profile_records.specs.Records as stations
use Rattle.profile.specs.Profile.{station_count, field_at, stations_cause, input_cause, profile_cause, filled, fields_after}
use Rattle.profile.specs.Promises.{InputRight}
use Rattle.profile.specs.InputLaws.{none-input, only-input}
use Rattle.profile.specs.StationLaws.{own-number, stations-refused, filled_agrees}

-- 11 is none of 1 to 8 and 12
pub not_input : (i : ℕ) → InputRefusal (TooManyEdges i) → ⊥
not_input i h = ⊎_elim (λ l. omega arith) (λ e. let z : ◌≡◌ {A = ℕ} 11 12 = ap number_of e in omega arith) h

none_filled : (r : Refusal) (s : ℕ) → InputRefusal r → filled (Err r) s ≡ 0
unfolding filled
none_filled r s h =
    let n : number_of r ≡ 11 → ⊥ = λ q. ⊎_elim (λ l. omega arith) (λ e. let z : number_of r ≡ 12 = ap number_of e in omega arith) h in
    ap (λ (b : Bool). cond b (place_of r) 0) (ne_eqb (number_of r) 11 n)

module _ (v : List Float) (f : List ℕ) (st : List Float) where
  -- ---- by parts

  pub fields_as_they_were : (r : Refusal) (l : List Float) → InputRefusal r → fields_after (Err r) v f st l ≡ l
  unfolding fields_after records
  fields_as_they_were r l h = rw (none_filled r (station_count st) h)

  module _ (w o : ℕ) where
    pub refused-input : (r : Refusal) → input_cause v f st w o ≡ Err r → profile_cause v f st w o ≡ Err r
    unfolding profile_cause
    refused-input r e = rw e

    pub past_input : input_cause v f st w o ≡ Ok tt → profile_cause v f st w o ≡ stations_cause v f st
    unfolding profile_cause
    past_input e = rw e

    pub fields_of_stations : (l : List Float) → input_cause v f st w o ≡ Ok tt
        → fields_after (profile_cause v f st w o) v f st l ≡ stations.fields_after (field_at v f st) (station_count st) l
    unfolding fields_after stations.fields_after
    fields_of_stations l e =
        ap (λ (n : ℕ). records (field_at v f st) n ++ drop (field_size * n) l) (ap (λ (c : Cause). filled c (station_count st)) (past_input e) ∙ filled_agrees v f st)

    -- a call over the stations that is done has the cause and the list of fields of the profile
    pub done : (l m : List Float) (c : Cause) → input_cause v f st w o ≡ Ok tt → Done (field_at v f st) (station_count st) l c m
        → (c ≡ profile_cause v f st w o) × (m ≡ fields_after (profile_cause v f st w o) v f st l)
    unfolding stations_cause
    done l m c e d = (d.cause ∙ sym (past_input e), d.fields ∙ sym (fields_of_stations l e))

    -- ---- the records that are filled

    pub record Filled (n : ℕ) : Type 0 where
      pub within : n ≤ station_count st
      pub values : first_cause (field_at v f st) n ≡ Ok tt
      pub input : 0 < n → InputRight v f st w o

    filled-by : (c d : Cause) → input_cause v f st w o ≡ c → stations_cause v f st ≡ d → Filled (filled (or_else c d) (station_count st))
    unfolding filled stations_cause first_of
    filled-by (Ok _) (Ok _) p e = record { within = omega arith; values = e; input = λ l. none-input v f st w o p }
    filled-by (Ok _) (Err r) p e =
        let g = stations-refused v f st r e in
        rw (own-number v f st g.at r g.itself) (record { within = omega (arith, g.within); values = g.before; input = λ l. none-input v f st w o p })
    filled-by (Err r) d p e =
        rw (none_filled r (station_count st) (only-input v f st w o r p)) (record { within = omega arith; values = refl; input = λ l. absurd (omega arith) })

    pub is-filled : Filled (filled (profile_cause v f st w o) (station_count st))
    unfolding profile_cause
    is-filled = filled-by (input_cause v f st w o) (stations_cause v f st) refl refl
