-- What `profile` owes, return by return: `not-given` after 1, 2, 12 or 3, `not-accepted` after 4 to 8, and `success`, where the stations decide; `given_in_two`: 1, 2 and 12
-- before 3. Assumes nothing.
use mathlib.Core.Path.{◌≡◌, refl, sym, ap, ◌∙◌}
use mathlib.Core.List.{List, ◌++◌}
use Prim.Native.Nat.{ℕ, ◌*◌, ◌≤◌}
use native.Mathlib.Omega.{arith}
use lib.Ieee.{Float}
use lib.ListN.{length, take, drop, length-append}
use Rattle.refusals.specs.Causes.{or_else}
use Rattle.std.specs.Prelude.{Ok, Err}
use Rattle.refusals.specs.Causes.{Cause}
use Rattle.refusals.specs.declared.Refusal.{Refusal}
use Rattle.refusals.proofs.Causes.{both}
use Rattle.newtonian.specs.Vectors.{field_size}
use Rattle.mesh_orders.specs.Edges.{max_stations}
use Rattle.mesh_orders.specs.Order.{order_list}
use Rattle.mesh_orders.specs.OrderLaws.{order-length}
use Rattle.mesh.specs.Accepted.{Counted}
use Rattle.mesh.specs.CauseLaws.{none-malformed, none-many, none_short}
use Rattle.mesh.specs.Check.{surface_cause, solid_of, work_after}
use Rattle.mesh.specs.Check as mesh
use Rattle.mesh.specs.Surface.{Body, volume}
use Rattle.mesh_laws.proofs.Laws.{checked, solid-volume, solid-refused, work-front}
use Rattle.profile_records.specs.Records.{Done}
use Rattle.profile.specs.InputLaws.{none-input, only-input}
use Rattle.profile.specs.FilledLaws.{fields_as_they_were, refused-input, done}
use Rattle.profile.specs.WorkLaws.{work_untouched, work-by_surface}
use Rattle.profile.specs.Profile.{station_count, field_at, malformed, too_many, too_short, out_of_limits, given_cause, input_cause, profile_cause, fields_after}

four_in_two : (a b c d : Cause) → or_else a (or_else b (or_else c d)) ≡ or_else (or_else a (or_else b c)) d
four_in_two (Err x) b c d = refl
four_in_two (Ok _) (Err x) c d = refl
four_in_two (Ok _) (Ok _) c d = refl

-- 1, 2 and 12, which are tried together, then 3
pub given_in_two : (v : List Float) (f : List ℕ) (st : List Float) (n m : ℕ)
    → given_cause v f st n m ≡ or_else (or_else (malformed v f st) (or_else (too_many v f st) (too_short f st n m))) (or_else (mesh.out_of_limits v) (mesh.out_of_limits st))
unfolding given_cause out_of_limits
given_in_two v f st n m = four_in_two (malformed v f st) (too_many v f st) (too_short f st n m) (out_of_limits v st)

module _ (v : List Float) (f : List ℕ) (st : List Float) (w : List ℕ) (l : List Float) where
  abbrev first-cause : Cause
  first-cause = profile_cause v f st (length w) (length l)

  -- what `profile` owes where it answers c, work holds w' and fields l'
  abbrev pub Owed : Cause → List ℕ → List Float → Type 0
  Owed c w' l' = (c ≡ first-cause) × ((w' ≡ work_after first-cause f w) × (l' ≡ fields_after first-cause v f st l))

  -- refused before any field: fields are as they were
  refuses : (r : Refusal) → input_cause v f st (length w) (length l) ≡ Err r → (w' : List ℕ) → w' ≡ work_after first-cause f w → Owed (Err r) w' l
  refuses r e w' u =
      let q = refused-input v f st (length w) (length l) r e in
      (sym q, (u, sym (ap (λ (c : Cause). fields_after c v f st l) q ∙ fields_as_they_were v f st r l (only-input v f st (length w) (length l) r e))))

  -- 1, 2, 12 or 3
  pub not-given : (r : Refusal) → given_cause v f st (length w) (length l) ≡ Err r → Owed (Err r) w l
  unfolding input_cause
  not-given r e = refuses r (ap (λ (c : Cause). or_else c (surface_cause v f)) e) w (sym (work_untouched v f st (length w) (length l) w r e))

  module _ (h : given_cause v f st (length w) (length l) ≡ Ok tt) where
    to-surface : input_cause v f st (length w) (length l) ≡ surface_cause v f
    unfolding input_cause
    to-surface = ap (λ (c : Cause). or_else c (surface_cause v f)) h

    pub counted : Counted v f (length w)
    unfolding given_cause malformed too_many too_short
    counted =
        let a = both (malformed v f st) _ h in
        let b = both (too_many v f st) _ a.1 in
        let c = both (too_short f st (length w) (length l)) (out_of_limits v st) b.1 in
        let m = none-malformed v f (both (mesh.malformed v f) _ a.0).0 in
        let n = none-many v f (both (mesh.too_many v f) _ b.0).0 in
        record { coordinates = m.0; corners = m.1; vertices = n.0; faces = n.1; room = none_short v f (length w) (both (mesh.too_short f (length w)) _ c.0).0 }

    module _ (w' : List ℕ) (e : w' ≡ work_after (surface_cause v f) f w) where
      owed-work : w' ≡ work_after first-cause f w
      owed-work = e ∙ sym (work-by_surface v f st (length w) (length l) w h)

      -- 4 to 8
      pub not-accepted : (r : Refusal) → solid_of (surface_cause v f) (volume v f) ≡ Err r → Owed (Err r) w' l
      not-accepted r q = refuses r (to-surface ∙ solid-refused (surface_cause v f) (volume v f) r q) w' owed-work

      -- what there is after the check: a body, the order list at the front of work, room for the records; the stations decide the rest
      pub record Success : Type 0 where
        pub body : Body v f
        pub front : take (length f) w' ≡ order_list f
        pub room : length f ≤ length w'
        pub few : station_count st ≤ max_stations
        pub space : field_size * station_count st ≤ length l
        pub answered : (c : Cause) (l' : List Float) → Done (field_at v f st) (station_count st) l c l' → Owed c w' l'

      pub success : (x : Float) → solid_of (surface_cause v f) (volume v f) ≡ Ok x → Success
      unfolding work_after
      success x q =
          let n = (solid-volume (surface_cause v f) (volume v f) x q).0 in
          let i = none-input v f st (length w) (length l) (to-surface ∙ n) in
          let o : w' ≡ order_list f ++ drop (length f) w = e ∙ ap (λ (c : Cause). work_after c f w) n in
          record {
            body = (checked v f (length w) counted n).body;
            front = ap (take (length f)) o ∙ work-front v f (length w) w;
            room = omega (arith, ap length o, length-append (order_list f) (drop (length f) w), order-length f);
            few = i.stations;
            space = i.fields;
            answered = λ c l' d.
                let k = done v f st (length w) (length l) l l' c (to-surface ∙ n) d in
                (k.0, (owed-work, k.1));
          }
