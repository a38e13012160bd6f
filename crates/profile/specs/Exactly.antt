-- A step towards `ProfileLaws`: the answers of `profile` and the plain statements of Promises, each direction by itself. States:
-- `none_each`, `each_none`: no cause, and a value of the single call at each station;
-- `refused-at`, `at_refuses`: 11 with the station i, and the single call refused there first;
-- `of_station`: the stations' cause is 11 with one of their numbers. Assumes nothing.
use Rattle.std.specs.Prelude.{◌≡◌, List, ℕ, ◌<◌, Float}
use Rattle.std.proofs.Common.{ap, ◌∙◌, arith}
use Rattle.std.proofs.Math.Path.{subst}
use Rattle.std.specs.Prelude.{Ok, Err}
use Rattle.refusals.specs.Causes.{Cause}
use Rattle.refusals.specs.declared.Refusal.TheVariants.{TooManyEdges}
use Rattle.refusals.proofs.Causes.{both, from_both, each, from_each, stop}
use Rattle.mesh.proofs.CauseNumbers.{Only, skip}
use Rattle.polyhedron.specs.PolyhedronLaws.{InputRefusal}
use Rattle.profile_records.specs.Records.{cause_of}
use Rattle.profile.specs.Profile.{station_count, field_at, stations_cause, input_cause, profile_cause}
use Rattle.profile.specs.Promises.{HasValue, StationRefusal, single_call, InputRight, NoCause, RefusedAt}
use Rattle.profile.specs.InputLaws.{none-input, input_none, only-input}
use Rattle.profile.specs.StationLaws.{has_value, is-refused, stations-refused, own-number, value_single, single_value_lem, refused_single, single_refused}
use Rattle.profile.specs.FilledLaws.{not_input, past_input}

module _ (v : List Float) (f : List ℕ) (st : List Float) where
  abbrev cause_at : ℕ → Cause
  cause_at i = cause_of (field_at v f st i)

  pub of_station : Only (StationRefusal (station_count st)) (stations_cause v f st)
  of_station r e = let g = stations-refused v f st r e in record { station = g.at; within = g.within; given = own-number v f st g.at r g.itself }

  module _ (w o : ℕ) where
    -- ---- a value at each of the first n stations

    module _ (h : InputRight v f st w o) (i : ℕ) (l : i < station_count st) where
      value-at : cause_at i ≡ Ok tt → HasValue (single_call v f st w i)
      value-at e = let x = has_value (field_at v f st i) e in record { field = x.field; given = value_single v f st w o h i l x.field x.given }

      at_value : HasValue (single_call v f st w i) → cause_at i ≡ Ok tt
      at_value x = ap cause_of (single_value_lem v f st w o h i l x.field x.given)

    -- ---- no cause

    pub none_each : profile_cause v f st w o ≡ Ok tt → NoCause v f st w o
    unfolding profile_cause stations_cause
    none_each e =
        let t = both (input_cause v f st w o) (stations_cause v f st) e in
        let h = none-input v f st w o t.0 in
        record { input = h; each = λ i l. value-at h i l (each (station_count st) cause_at t.1 i l) }

    pub each_none : NoCause v f st w o → profile_cause v f st w o ≡ Ok tt
    unfolding profile_cause stations_cause
    each_none h =
        from_both (input_cause v f st w o) (stations_cause v f st) (input_none v f st w o h.input)
        (from_each (station_count st) cause_at (λ i l. at_value h.input i l (h.each i l)))

    -- ---- 11 with the station i

    pub refused-at : (i : ℕ) → profile_cause v f st w o ≡ Err (TooManyEdges i) → RefusedAt v f st w o i
    unfolding profile_cause
    refused-at i e =
        let t = skip InputRefusal (input_cause v f st w o) (stations_cause v f st) (TooManyEdges i) (only-input v f st w o) (not_input i) e in
        let h = none-input v f st w o t.0 in
        let g = stations-refused v f st (TooManyEdges i) t.1 in
        let k = g.at in
        let q = own-number v f st k (TooManyEdges i) g.itself in
        subst (RefusedAt v f st w o) (let z : k ≡ i = cc in z)
        (record {
          input = h;
          station = g.within;
          itself = refused_single v f st w o h k g.within (TooManyEdges i) (is-refused (field_at v f st k) (TooManyEdges i) g.itself);
          before = λ j l. value-at h j (omega (arith, g.within)) (each k cause_at g.before j l);
        })

    pub at_refuses : (i : ℕ) → RefusedAt v f st w o i → profile_cause v f st w o ≡ Err (TooManyEdges i)
    unfolding stations_cause
    at_refuses i h =
        past_input v f st w o (input_none v f st w o h.input)
        ∙ stop (station_count st) i cause_at (TooManyEdges i) h.station
        (from_each i cause_at (λ j l. at_value h.input j (omega (arith, h.station)) (h.before j l)))
        (ap cause_of (single_refused v f st w o h.input i h.station (TooManyEdges 0) h.itself))
