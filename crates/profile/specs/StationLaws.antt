-- A step towards `ProfileLaws`: the stations of a mesh of which none of the causes 1 to 8 and 12 holds. States:
-- `value_single`, `single_value`, `refused_single`, `single_refused`: the field at a station and the single call there are the same, but for the number in a refusal;
-- `stations-refused`: where the stations have a cause, it is 11 at the first that is refused;
-- `filled_agrees`: `filled` of the cause is how many stations come before the first that is refused;
-- `record_part`: the record of a station among the records of many. Assumes nothing.
use Rattle.std.specs.Prelude.{◌≡◌, refl, Float, drop}
use Rattle.std.proofs.Math.Path.{sym, ap}
use Rattle.std.proofs.Common.{◌∙◌, drop_at}
use mathlib.Core.List.{List, ◌++◌, append_assoc}
use Rattle.std.proofs.Math.Logic.{⊎_elim}
use Prim.Native.Nat.{ℕ, zero, suc, ◌*◌, ◌<◌}
use native.Mathlib.Omega.{arith}
use Rattle.std.proofs.Math.ListN.{length, take}
use Rattle.std.proofs.Math.Seq.{take_at}
use Rattle.lists.proofs.Numbers.{below?}
use Rattle.std.specs.Prelude.{Ok, Err}
use Rattle.refusals.specs.Answer.{Answer}
use Rattle.refusals.specs.Causes.{Cause}
use Rattle.refusals.specs.Causes.{or_else, first_of}
use Rattle.refusals.specs.declared.Refusal.{Refusal}
use Rattle.refusals.specs.declared.Refusal.TheVariants.{TooManyEdges}
use Rattle.refusals.proofs.Causes.{both}
use Rattle.newtonian.specs.Vectors.{field_numbers, field_size}
use Rattle.newtonian.specs.declared.Newtonian.{Newtonian}
use Rattle.polyhedron.specs.PolyhedronLaws.{at-refused}
use Rattle.polyhedron.specs.StationNumber.{polyhedron_at-value, polyhedron_at-too_many}
use Rattle.profile_records.specs.Records.{cause_of, numbers_of, first_cause, records}
use Rattle.profile_records.specs.Records as stations
use Rattle.profile_records.specs.RecordsLaws.{records-length, filled-all, filled-refused}
use Rattle.profile.specs.Profile.{station_count, station_at, field_at, stations_cause, filled}
use Rattle.profile.specs.Promises.{HasValue, single_call, InputRight}
use Rattle.profile.specs.InputLaws.{single_call_lem}

-- ---- an answer by its cause

pub has_value : (b : Answer Newtonian) → cause_of b ≡ Ok tt → HasValue b
has_value (Ok x) e = record { field = x; given = refl }
has_value (Err r) e = absurd (let z : ◌≡◌ {A = ℕ} 0 1 = cc in omega arith)

pub is-refused : (b : Answer Newtonian) (r : Refusal) → cause_of b ≡ Err r → b ≡ Err r
is-refused (Ok x) r e = absurd (let z : ◌≡◌ {A = ℕ} 0 1 = cc in omega arith)
is-refused (Err s) r e = ap {B = Answer Newtonian} Err (let z : s ≡ r = cc in z)

-- ---- the first cause

-- the first of c 0, c 1, .., c (n − 1) that refuses, which it does by r
pub record FirstRefused (n : ℕ) (c : ℕ → Cause) (r : Refusal) : Type 0 where
  pub at : ℕ
  pub within : at < n
  pub itself : c at ≡ Err r
  pub before : first_of at c ≡ Ok tt

first-refused : (n : ℕ) (c : ℕ → Cause) (r : Refusal) → first_of n c ≡ Err r → FirstRefused n c r
unfolding first_of
first-refused zero c r e = absurd (let z : ◌≡◌ {A = ℕ} 0 1 = cc in omega arith)
first-refused (suc n) c r e = go (first_of n c) refl e (λ q. first-refused n c r q)
  where
    go : (d : Cause) → first_of n c ≡ d → or_else d (c n) ≡ Err r → (first_of n c ≡ Err r → FirstRefused n c r) → FirstRefused (suc n) c r
    go (Ok _) q e h = record { at = n; within = omega arith; itself = e; before = q }
    go (Err s) q e h = let g = h (q ∙ e) in record { at = g.at; within = omega (arith, g.within); itself = g.itself; before = g.before }

-- ---- records of stations that all have values

module _ (a : ℕ → Answer Newtonian) where
  pub record_part : (n i : ℕ) (x : Newtonian) (l : List Float) → first_cause a n ≡ Ok tt → i < n → a i ≡ Ok x
      → take field_size (drop (field_size * i) (records a n ++ l)) ≡ field_numbers x
  unfolding first_of records field_numbers
  record_part zero i x l e h q = absurd (omega arith)
  record_part (suc n) i x l e h q =
      let t = both (first_cause a n) (cause_of (a n)) e in
      let s = append_assoc (records a n) (numbers_of (a n)) l in
      ⊎_elim
      (λ m. ap (λ (k : List Float). take field_size (drop (field_size * i) k)) s ∙ record_part n i x (numbers_of (a n) ++ l) t.0 m q)
      (λ m.
      let z : n ≡ i = omega arith in
      let y : a n ≡ Ok x = ap a z ∙ q in
      let p : length (records a n) ≡ field_size * i = omega (arith, records-length a n t.0) in
      ap (λ (k : List Float). take field_size (drop (field_size * i) k)) s
      ∙ ap (take field_size) (drop_at (records a n) (numbers_of (a n) ++ l) (field_size * i) p)
      ∙ ap (λ (b : Answer Newtonian). take field_size (numbers_of b ++ l)) y ∙ take_at (field_numbers x) l field_size refl)
      (below? i n)

module _ (v : List Float) (f : List ℕ) (st : List Float) where
  -- ---- the cause of the stations

  pub stations-refused : (r : Refusal) → stations_cause v f st ≡ Err r → FirstRefused (station_count st) (λ i. cause_of (field_at v f st i)) r
  unfolding stations_cause
  stations-refused r e = first-refused (station_count st) (λ i. cause_of (field_at v f st i)) r e

  -- a station is refused by 11 with its own number
  pub own-number : (i : ℕ) (r : Refusal) → cause_of (field_at v f st i) ≡ Err r → r ≡ TooManyEdges i
  own-number i r e = at-refused i (station_at st i) v f r (is-refused (field_at v f st i) r e)

  agrees : (c : Cause) → stations_cause v f st ≡ c → filled c (station_count st) ≡ stations.filled (field_at v f st) (station_count st)
  unfolding stations_cause filled
  agrees (Ok _) e = sym (filled-all (field_at v f st) (station_count st) e)
  agrees (Err r) e =
      let g = stations-refused r e in
      let q = own-number g.at r g.itself in
      let m = filled-refused (field_at v f st) (station_count st) g.at (λ j l s t. at-refused j (station_at st j) v f s t) (e ∙ ap {B = Cause} Err q) in
      rw q (sym m.0)

  pub filled_agrees : filled (stations_cause v f st) (station_count st) ≡ stations.filled (field_at v f st) (station_count st)
  filled_agrees = agrees (stations_cause v f st) refl

  -- ---- the single call

  module _ (w o : ℕ) (h : InputRight v f st w o) (i : ℕ) (l : i < station_count st) where
    pub value_single : (x : Newtonian) → field_at v f st i ≡ Ok x → single_call v f st w i ≡ Ok x
    value_single x e = single_call_lem v f st w o h i l ∙ polyhedron_at-value i 0 (station_at st i) v f x e

    pub single_value_lem : (x : Newtonian) → single_call v f st w i ≡ Ok x → field_at v f st i ≡ Ok x
    single_value_lem x e = polyhedron_at-value 0 i (station_at st i) v f x (sym (single_call_lem v f st w o h i l) ∙ e)

    pub refused_single : (r : Refusal) → field_at v f st i ≡ Err r → single_call v f st w i ≡ Err (TooManyEdges 0)
    refused_single r e = single_call_lem v f st w o h i l ∙ polyhedron_at-too_many i 0 (station_at st i) v f r e

    pub single_refused : (r : Refusal) → single_call v f st w i ≡ Err r → field_at v f st i ≡ Err (TooManyEdges i)
    single_refused r e = polyhedron_at-too_many 0 i (station_at st i) v f r (sym (single_call_lem v f st w o h i l) ∙ e)
