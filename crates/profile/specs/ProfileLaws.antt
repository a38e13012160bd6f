-- What the answers of `profile` mean, in the words of order 1. Assumes nothing. States:
-- `records_are_calls`: "record by record it equals the single call": each record that is filled is what `polyhedron` answers at its station;
-- `records_untouched`: the entries past the filled records are as they were;
-- `fields_untouched`: after each refusal but 11, all are;
-- `refused-exactly`: "if a station is refused .. its number comes back": the cause is 11 with i exactly where no earlier cause holds, `polyhedron` refuses station i by 11 and has a
-- value at each station before; `earlier_records`: the records of the stations before i, and no others, are then filled;
-- `no_cause-exactly`: there is no cause exactly where each cause before the fields is denied by itself and `polyhedron` has a value at each station; `all-records`: all are then filled;
-- `one-station`: a profile of one station, with room for 13 numbers, is refused exactly as the single call; `one_record`: else its record is the single call's field, and what follows
-- it is as it was; `one-refused`: where it is refused, all is as it was;
-- `only_11`: "which here only 11 does": `profile` is refused by 1 to 8 and 12, or by 11 with a station below S, and by no other number;
-- `input-exactly`: none of 1 to 8 and 12 holds exactly where each is denied by itself; `causes_in_order`: the first of the causes in document 01's order decides.
use Rattle.std.specs.Prelude.{◌≡◌, refl, List, ◌++◌, ◌↔◌, ◌⊎◌, ℕ, ◌*◌, ◌≤◌, ◌<◌, Float, length}
use Rattle.std.proofs.Math.Path.{ap}
use Rattle.std.proofs.Common.{◌∙◌, arith, le-leb}
use Rattle.std.proofs.Math.Logic.{inl, inr, ⊎_elim}
use Rattle.std.proofs.Math.ListN.{drop}
use Rattle.std.proofs.Math.Seq.{drop_at}
use Rattle.std.specs.Prelude.{Ok, Err}
use Rattle.refusals.specs.Answer.{Answer}
use Rattle.refusals.specs.Causes.{Cause}
use Rattle.refusals.specs.Causes.{first_of}
use Rattle.refusals.specs.declared.Refusal.{Refusal}
use Rattle.refusals.specs.declared.Refusal.TheVariants.{TooManyEdges}
use Rattle.refusals.proofs.Causes.{each}
use Rattle.newtonian.specs.Vectors.{vector_numbers, field_numbers, field_size}
use Rattle.newtonian.specs.declared.Newtonian.{Newtonian}
use Rattle.newtonian.specs.declared.Vector.{Vector}
use Rattle.mesh.specs.CauseLaws as causes
use Rattle.mesh.specs.Check.{count_cause, surface_cause}
use Rattle.mesh.specs.Check as mesh
use Rattle.mesh.proofs.CauseNumbers.{only_else}
use Rattle.polyhedron.specs.Polyhedron.{station_out_of_limits, polyhedron_at, polyhedron_cause, polyhedron}
use Rattle.polyhedron.specs.Polyhedron as single
use Rattle.polyhedron.specs.PolyhedronLaws.{InputRefusal, polyhedron-refused}
use Rattle.profile_records.specs.Records.{cause_of, numbers_of, records}
use Rattle.profile_records.specs.RecordsLaws.{records-length}
use Rattle.profile.specs.Profile.{station_count, field_at, malformed, too_many, too_short, out_of_limits, stations_cause, profile_causes, given_cause, input_cause, profile_cause, filled, fields_after}
use Rattle.profile.specs.Promises.{StationRefusal, RecordFromCall, InputRight, NoCause, RefusedAt}
use Rattle.profile.specs.InputLaws.{none-input, input_none, only-input}
use Rattle.profile.specs.StationLaws.{has_value, record_part, value_single}
use Rattle.profile.specs.FilledLaws.{fields_as_they_were, is-filled}
use Rattle.profile.specs.InOrder.{six_in_order, one_in_order, three_numbers, past_causes}
use Rattle.profile.specs.Exactly.{of_station, none_each, each_none, refused-at, at_refuses}

-- ---- the records

-- in a list of fields that was l
module _ (v : List Float) (f : List ℕ) (st : List Float) (w : ℕ) (l : List Float) where
  abbrev cause : Cause
  cause = profile_cause v f st w (length l)

  pub records_are_calls : (i : ℕ) → i < filled cause (station_count st) → RecordFromCall v f st w (fields_after cause v f st l) i
  unfolding fields_after
  records_are_calls i h =
      let n = filled cause (station_count st) in
      let s = is-filled v f st w (length l) in
      let x = has_value (field_at v f st i) (each n (λ j. cause_of (field_at v f st j)) s.values i h) in
      record {
        field = x.field;
        answered = value_single v f st w (length l) (s.input (omega arith)) i (omega (arith, s.within)) x.field x.given;
        stored = record_part (field_at v f st) n i x.field (drop (field_size * n) l) s.values h x.given;
      }

  pub records_untouched : drop (field_size * filled cause (station_count st)) (fields_after cause v f st l) ≡ drop (field_size * filled cause (station_count st)) l
  unfolding fields_after
  records_untouched =
      let n = filled cause (station_count st) in
      drop_at (records (field_at v f st) n) (drop (field_size * n) l) (field_size * n) (records-length (field_at v f st) n (is-filled v f st w (length l)).values)

  pub fields_untouched : (r : Refusal) → cause ≡ Err r → InputRefusal r → fields_after cause v f st l ≡ l
  fields_untouched r e h = ap (λ (c : Cause). fields_after c v f st l) e ∙ fields_as_they_were v f st r l h

pub earlier_records : (i s : ℕ) → filled (Err (TooManyEdges i)) s ≡ i
unfolding filled
earlier_records i s = refl

pub all-records : (s : ℕ) → filled (Ok tt) s ≡ s
unfolding filled
all-records s = refl

-- ---- the causes

module _ (v : List Float) (f : List ℕ) (st : List Float) (w o : ℕ) where
  pub input-exactly : (input_cause v f st w o ≡ Ok tt) ↔ InputRight v f st w o
  input-exactly = (none-input v f st w o, input_none v f st w o)

  pub no_cause-exactly : (profile_cause v f st w o ≡ Ok tt) ↔ NoCause v f st w o
  no_cause-exactly = (none_each v f st w o, each_none v f st w o)

  pub refused-exactly : (i : ℕ) → (profile_cause v f st w o ≡ Err (TooManyEdges i)) ↔ RefusedAt v f st w o i
  refused-exactly i = (refused-at v f st w o i, at_refuses v f st w o i)

  pub only_11 : (r : Refusal) → profile_cause v f st w o ≡ Err r → InputRefusal r ⊎ StationRefusal (station_count st) r
  unfolding profile_cause
  only_11 r e =
      only_else (λ q. InputRefusal q ⊎ StationRefusal (station_count st) q) (input_cause v f st w o) (stations_cause v f st)
      (λ q m. inl (only-input v f st w o q m)) (λ q m. inr (of_station v f st q m)) r e

  pub causes_in_order : profile_cause v f st w o ≡ causes.first_cause (profile_causes v f st w o)
  unfolding profile_cause input_cause given_cause
  causes_in_order = six_in_order (malformed v f st) (too_many v f st) (too_short f st w o) (out_of_limits v st) (surface_cause v f) (stations_cause v f st)

-- ---- one station

-- at p; o and l are as above
module _ (v : List Float) (f : List ℕ) (p : Vector) (w : ℕ) where
  abbrev one : List Float
  one = vector_numbers p

  pub one-station : (o : ℕ) → field_size ≤ o → profile_cause v f one w o ≡ cause_of (polyhedron p v f w)
  unfolding profile_cause input_cause given_cause malformed too_many too_short out_of_limits stations_cause first_of polyhedron polyhedron_cause single.given_cause count_cause
  one-station o h =
      rw (le-leb field_size o h, three_numbers p)
      (one_in_order (mesh.malformed v f) (mesh.too_many v f) (mesh.too_short f w) (mesh.out_of_limits v) (station_out_of_limits p) (surface_cause v f) (polyhedron_at 0 p v f))

  module _ (l : List Float) (h : field_size ≤ length l) where
    abbrev after : List Float
    after = fields_after (profile_cause v f one w (length l)) v f one l

    after-cause : (c : Cause) → cause_of (polyhedron p v f w) ≡ c → after ≡ fields_after c v f one l
    after-cause c e = ap (λ (d : Cause). fields_after d v f one l) (one-station (length l) h ∙ e)

    pub one_record : (x : Newtonian) → polyhedron p v f w ≡ Ok x → after ≡ field_numbers x ++ drop field_size l
    unfolding fields_after filled records polyhedron
    one_record x e =
        after-cause (Ok tt) (ap cause_of e)
        ∙ ap (λ (a : Answer Newtonian). numbers_of a ++ drop field_size l) (past_causes (polyhedron_cause p v f w) (polyhedron_at 0 p v f) x e)

    pub one-refused : (r : Refusal) → polyhedron p v f w ≡ Err r → after ≡ l
    unfolding fields_after filled records
    one-refused r e =
        after-cause (Err r) (ap cause_of e)
        ∙ ⊎_elim (λ i. fields_as_they_were v f one r l i) (λ q. ap (λ (s : Refusal). fields_after (Err s) v f one l) q) (polyhedron-refused v f p w r e)
