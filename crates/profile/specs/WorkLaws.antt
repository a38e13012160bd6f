-- What work, which was l, holds after `profile`. States:
-- `work_untouched`: after 1, 2, 12 and 3 it is as it was;
-- `work-by_surface`: else it is what the causes 4 to 8 leave: whether a station is refused changes nothing of it. Assumes nothing.
use Rattle.std.specs.Prelude.{◌≡◌, refl, true, ◌&&◌, List, ℕ, ◌*◌, ◌%◌, Float, length}
use Rattle.std.proofs.Math.Path.{ap}
use Rattle.std.proofs.Math.Dec.{eqb, leb}
use Rattle.refusals.specs.Causes.{or_else, unless}
use Rattle.std.specs.Prelude.{Ok, Err}
use Rattle.refusals.specs.Causes.{Cause}
use Rattle.refusals.specs.declared.Refusal.{Refusal}
use Rattle.refusals.specs.declared.Refusal.TheVariants.{Malformed, TooMany, TooShort, OutOfLimits}
use Rattle.newtonian.specs.Vectors.{field_size}
use Rattle.mesh_orders.specs.Edges.{max_vertices, max_faces, max_stations}
use Rattle.mesh.specs.Check.{in_limits, surface_cause, leaves_work, work_after}
use Rattle.mesh.specs.Check as mesh
use Rattle.mesh.specs.Surface.{vertex_count, face_count}
use Rattle.mesh.proofs.CauseNumbers.{Only, only-unless, only_else, only-first}
use Rattle.profile.specs.Profile.{station_count, malformed, too_many, too_short, out_of_limits, stations_cause, given_cause, input_cause, profile_cause}
use Rattle.profile.specs.Exactly.{of_station}

abbrev Leaves : Refusal → Type 0
Leaves r = leaves_work r ≡ true

numbers_leave : (v : List Float) → Only Leaves (mesh.out_of_limits v)
unfolding mesh.out_of_limits leaves_work
numbers_leave v = only-first Leaves (length v) (in_limits v) (λ i. OutOfLimits) (λ i. refl)

module _ (v : List Float) (f : List ℕ) (st : List Float) (w o : ℕ) (l : List ℕ) where
  given_leaves : Only Leaves (given_cause v f st w o)
  unfolding given_cause malformed mesh.malformed too_many mesh.too_many too_short mesh.too_short out_of_limits leaves_work
  given_leaves =
      let triples = eqb (length v % 3) 0 && eqb (length f % 3) 0 in
      let counts = leb (vertex_count v) max_vertices && leb (face_count f) max_faces in
      only_else Leaves (malformed v f st) _
      (only_else Leaves (unless triples Malformed) _ (only-unless Leaves triples Malformed refl) (only-unless Leaves (eqb (length st % 3) 0) Malformed refl))
      (only_else Leaves (too_many v f st) _
      (only_else Leaves (unless counts TooMany) _ (only-unless Leaves counts TooMany refl) (only-unless Leaves (leb (station_count st) max_stations) TooMany refl))
      (only_else Leaves (too_short f st w o) _
      (only_else Leaves (unless (leb (length f) w) TooShort) _ (only-unless Leaves (leb (length f) w) TooShort refl) (only-unless Leaves (leb (field_size * station_count st) o) TooShort refl))
      (only_else Leaves (mesh.out_of_limits v) _ (numbers_leave v) (numbers_leave st))))

  pub work_untouched : (r : Refusal) → given_cause v f st w o ≡ Err r → work_after (profile_cause v f st w o) f l ≡ l
  unfolding profile_cause input_cause work_after
  work_untouched r e = rw (e, given_leaves r e)

  by_surface : (c d : Cause) → ((r : Refusal) → d ≡ Err r → work_after (Err r) f l ≡ work_after (Ok tt) f l) → work_after (or_else c d) f l ≡ work_after c f l
  by_surface (Err r) d h = refl
  by_surface (Ok _) (Ok _) h = refl
  by_surface (Ok _) (Err r) h = h r refl

  pub work-by_surface : given_cause v f st w o ≡ Ok tt → work_after (profile_cause v f st w o) f l ≡ work_after (surface_cause v f) f l
  unfolding profile_cause input_cause work_after leaves_work
  work-by_surface e =
      rw e (by_surface (surface_cause v f) (stations_cause v f st) (λ r q. ap (λ (s : Refusal). work_after (Err s) f l) (of_station v f st r q).given))
