-- A step towards `ProfileLaws`: the causes 1 to 8 and 12, which come before any field. States:
-- `none-given`: what 1, 2, 12 and 3 leave; `none-input`, `input_none`: none of all these holds exactly where each is denied by itself;
-- `only-input`: they refuse by 1 to 8 and 12 alone;
-- `single_call`: where none holds, the single call at a station is the field of the checked mesh. Assumes nothing.
use Rattle.std.specs.Prelude.{◌≡◌, refl, true, List, ℕ, ◌+◌, ◌*◌, ◌%◌, ◌≤◌, ◌<◌, eqb, leb, Float, length}
use Rattle.std.proofs.Math.Path.{ap}
use Rattle.std.proofs.Common.{inl, inr, arith}
use borrow.Author.Tests.{eq-eqb, eqb-true, le-leb, leb-true}
use Rattle.std.specs.Prelude.{Ok}
use Rattle.refusals.specs.Answer.{or_answer}
use Rattle.refusals.specs.Causes.{Cause}
use Rattle.refusals.specs.Causes.{unless}
use Rattle.refusals.specs.declared.Refusal.TheVariants.{Malformed, TooMany, TooShort}
use Rattle.refusals.proofs.Causes.{both, holds}
use Rattle.newtonian.specs.Vectors.{vector_within_limits, field_size}
use Rattle.mesh_orders.specs.Edges.{max_stations}
use Rattle.mesh_orders.specs.Order.{order_list}
use Rattle.mesh.specs.Accepted.{Counted}
use Rattle.mesh.specs.CauseLaws.{is_body, none-malformed, malformed-none, none-many, many-none, none_short, short_none, none_limits, limits_none, count_none}
use Rattle.mesh.specs.Check.{no_such_vertex, order_cause, surface_cause}
use Rattle.mesh.specs.Check as mesh
use Rattle.mesh.specs.Surface.{vertex_count}
use Rattle.mesh.proofs.CauseNumbers.{Only, NumberWithin, only-unless, only_else, only-malformed, only-many, only_limits, only-vertex, only-order}
use Rattle.mesh_laws.specs.ClosedLaws.{closed_pairs, pairs_closed}
use Rattle.mesh_laws.proofs.Laws.{checked, checks}
use Rattle.mesh_laws.specs.Refused.{NumbersWithin}
use Rattle.polyhedron.specs.Polyhedron.{polyhedron_at, polyhedron_cause, polyhedron}
use Rattle.polyhedron.specs.Polyhedron as single
use Rattle.polyhedron.specs.PolyhedronLaws.{InputRefusal}
use Rattle.profile.specs.Profile.{station_count, station_at, malformed, too_many, too_short, out_of_limits, given_cause, input_cause}
use Rattle.profile.specs.Promises.{single_call, InputRight}

-- refused by a number up to 8
of_number : (lo hi : ℕ) (c : Cause) → hi ≤ 8 → Only (NumberWithin lo hi) c → Only InputRefusal c
of_number lo hi c h p r e = inl (omega (arith, (p r e).1))

-- the coordinates of station i are within the limits
station-within : (st : List Float) (i : ℕ) → NumbersWithin st → i < station_count st → vector_within_limits (station_at st i) ≡ true
unfolding vector_within_limits
station-within st i h l = rw (h (3 * i) (omega arith), h (3 * i + 1) (omega arith), h (3 * i + 2) (omega arith))

module _ (v : List Float) (f : List ℕ) (st : List Float) (w : ℕ) where
  module _ (o : ℕ) where
    -- ---- none of them holds

    -- what 1, 2, 12 and 3 leave
    pub record Given : Type 0 where
      pub counted : Counted v f w
      pub triples : length st % 3 ≡ 0
      pub stations : station_count st ≤ max_stations
      pub fields : field_size * station_count st ≤ o
      pub vertex-numbers : NumbersWithin v
      pub station-numbers : NumbersWithin st

    pub none-given : given_cause v f st w o ≡ Ok tt → Given
    unfolding given_cause malformed too_many too_short out_of_limits
    none-given e =
        let a = both (malformed v f st) _ e in
        let b = both (too_many v f st) _ a.1 in
        let c = both (too_short f st w o) (out_of_limits v st) b.1 in
        let p = both (mesh.malformed v f) _ a.0 in
        let q = both (mesh.too_many v f) _ b.0 in
        let r = both (mesh.too_short f w) _ c.0 in
        let x = both (mesh.out_of_limits v) (mesh.out_of_limits st) c.1 in
        let m = none-malformed v f p.0 in
        let n = none-many v f q.0 in
        record {
          counted = record { coordinates = m.0; corners = m.1; vertices = n.0; faces = n.1; room = none_short v f w r.0 };
          triples = eqb-true (length st % 3) 0 (holds (eqb (length st % 3) 0) Malformed p.1);
          stations = leb-true (station_count st) max_stations (holds (leb (station_count st) max_stations) TooMany q.1);
          fields = leb-true (field_size * station_count st) o (holds (leb (field_size * station_count st) o) TooShort r.1);
          vertex-numbers = none_limits v f x.0;
          station-numbers = none_limits st f x.1;
        }

    pub none-input : input_cause v f st w o ≡ Ok tt → InputRight v f st w o
    unfolding input_cause
    none-input e =
        let t = both (given_cause v f st w o) (surface_cause v f) e in
        let g = none-given t.0 in
        let h = checked v f w g.counted t.1 in
        let k = closed_pairs f h.closed in
        record {
          coordinates = g.counted.coordinates;
          corners = g.counted.corners;
          triples = g.triples;
          vertices = g.counted.vertices;
          faces = g.counted.faces;
          stations = g.stations;
          work = g.counted.room;
          fields = g.fields;
          vertex-numbers = g.vertex-numbers;
          station-numbers = g.station-numbers;
          inside = h.body.inside;
          once = k.once;
          back = k.back;
          normals = h.normals;
          positive = h.positive;
        }

    module _ (h : InputRight v f st w o) where
      counted : Counted v f w
      counted = record { coordinates = h.coordinates; corners = h.corners; vertices = h.vertices; faces = h.faces; room = h.work }

      no_surface : surface_cause v f ≡ Ok tt
      no_surface =
          checks v f (record {
            body = is_body v f w counted h.inside;
            closed = pairs_closed f (record { once = h.once; back = h.back });
            normals = h.normals;
            positive = h.positive;
          })

      pub input_none : input_cause v f st w o ≡ Ok tt
      unfolding input_cause given_cause malformed too_many too_short out_of_limits
      input_none =
          rw (
            malformed-none v f h.coordinates h.corners,
            eq-eqb (length st % 3) 0 h.triples,
            many-none v f h.vertices h.faces,
            le-leb (station_count st) max_stations h.stations,
            short_none v f w h.work,
            le-leb (field_size * station_count st) o h.fields,
            limits_none v f h.vertex-numbers,
            limits_none st f h.station-numbers,
            no_surface,
          )

      -- ---- the single call

      single_none : (i : ℕ) → i < station_count st → polyhedron_cause (station_at st i) v f w ≡ Ok tt
      unfolding polyhedron_cause single.given_cause
      single_none i l = rw (count_none v f w counted, limits_none v f h.vertex-numbers, station-within st i h.station-numbers l, no_surface)

      pub single_call_lem : (i : ℕ) → i < station_count st → single_call v f st w i ≡ polyhedron_at 0 (station_at st i) v f
      unfolding polyhedron
      single_call_lem i l = ap (λ (c : Cause). or_answer c (polyhedron_at 0 (station_at st i) v f)) (single_none i l)

    -- ---- with which numbers they refuse

    only_lists : Only InputRefusal (malformed v f st)
    unfolding malformed
    only_lists =
        only_else InputRefusal (mesh.malformed v f) (unless (eqb (length st % 3) 0) Malformed) (of_number 1 1 (mesh.malformed v f) (omega arith) (only-malformed v f))
        (only-unless InputRefusal (eqb (length st % 3) 0) Malformed (inl (omega arith)))

    only_counts : Only InputRefusal (too_many v f st)
    unfolding too_many
    only_counts =
        only_else InputRefusal (mesh.too_many v f) (unless (leb (station_count st) max_stations) TooMany) (of_number 2 2 (mesh.too_many v f) (omega arith) (only-many v f))
        (only-unless InputRefusal (leb (station_count st) max_stations) TooMany (inl (omega arith)))

    only-room : Only InputRefusal (too_short f st w o)
    unfolding too_short mesh.too_short
    only-room =
        only_else InputRefusal (mesh.too_short f w) (unless (leb (field_size * station_count st) o) TooShort) (only-unless InputRefusal (leb (length f) w) TooShort (inr refl))
        (only-unless InputRefusal (leb (field_size * station_count st) o) TooShort (inr refl))

    only-numbers : Only InputRefusal (out_of_limits v st)
    unfolding out_of_limits
    only-numbers =
        only_else InputRefusal (mesh.out_of_limits v) (mesh.out_of_limits st) (of_number 3 3 (mesh.out_of_limits v) (omega arith) (only_limits v f))
        (of_number 3 3 (mesh.out_of_limits st) (omega arith) (only_limits st f))

    only_surface : Only InputRefusal (surface_cause v f)
    unfolding surface_cause
    only_surface =
        only_else InputRefusal (no_such_vertex (vertex_count v) f) (order_cause v f (order_list f)) (of_number 4 4 (no_such_vertex (vertex_count v) f) (omega arith) (only-vertex v f))
        (of_number 5 8 (order_cause v f (order_list f)) (omega arith) (only-order v f (order_list f)))

    pub only-input : Only InputRefusal (input_cause v f st w o)
    unfolding input_cause given_cause
    only-input =
        only_else InputRefusal (given_cause v f st w o) (surface_cause v f)
        (only_else InputRefusal (malformed v f st) _ only_lists
        (only_else InputRefusal (too_many v f st) _ only_counts
        (only_else InputRefusal (too_short f st w o) (out_of_limits v st) only-room only-numbers)))
        only_surface
