-- A step towards `Laws`: the causes of `check_mesh` read backwards. States: `sound-order`: of a sound mesh the causes 5 to 8 decide; `none-sound`, `late_sound`: no cause at all, or
-- one of 5 to 8, is the answer of a sound mesh only. Assumes nothing.
use Rattle.std.specs.Prelude.{◌≡◌, List, ℕ, ◌≤◌, Float}
use Rattle.std.proofs.Common.{arith}
use Rattle.refusals.specs.declared.Refusal.{Refusal}
use Rattle.std.specs.Prelude.{Ok, Err}
use Rattle.refusals.specs.Numbers.{number_of}
use Rattle.refusals.specs.Causes.{or_else}
use Rattle.refusals.proofs.Causes.{both}
use Rattle.mesh_orders.specs.Order.{order_list}
use Rattle.mesh.specs.Surface.{vertex_count, Body}
use Rattle.mesh.specs.Check.{malformed, too_many, too_short, out_of_limits, no_such_vertex, count_cause, order_cause, surface_cause, mesh_cause}
use Rattle.mesh.specs.Accepted.{Sound}
use Rattle.mesh.specs.CauseLaws.{is_body, none-count, count_none, none_limits, limits_none, none-vertex, vertex-none}
use Rattle.mesh.proofs.CauseNumbers.{Only, NumberWithin, only_else, skip, only-malformed, only-many, only_short, only_limits, only-vertex}

-- r is none of 5 to 8
abbrev Not5To8 : Refusal → Type 0
Not5To8 r = NumberWithin 5 8 r → ⊥

module _ (v : List Float) (f : List ℕ) (n : ℕ) where
  count-not_late : Only Not5To8 (count_cause v f n)
  unfolding count_cause
  count-not_late =
      only_else Not5To8 (malformed v f) (or_else (too_many v f) (too_short f n)) (λ r e q. omega (arith, (only-malformed v f r e).1, q.0))
      (only_else Not5To8 (too_many v f) (too_short f n) (λ r e q. omega (arith, (only-many v f r e).1, q.0)) (λ r e q. omega (arith, (only_short v f n r e).0, q.1)))

  -- a sound mesh is a body
  pub sound-body : Sound v f n → Body v f
  sound-body s = is_body v f n s.counted s.inside

  pub sound-order : Sound v f n → mesh_cause v f n ≡ order_cause v f (order_list f)
  unfolding mesh_cause surface_cause
  sound-order s = rw (count_none v f n s.counted, limits_none v f s.numbers, vertex-none v f s.inside)

  sound : count_cause v f n ≡ Ok tt → out_of_limits v ≡ Ok tt → no_such_vertex (vertex_count v) f ≡ Ok tt → Sound v f n
  sound a b c = record { counted = none-count v f n a; numbers = none_limits v f b; inside = none-vertex v f c }

  pub none-sound : mesh_cause v f n ≡ Ok tt → Sound v f n × (order_cause v f (order_list f) ≡ Ok tt)
  unfolding mesh_cause surface_cause
  none-sound e =
      let a = both (count_cause v f n) (or_else (out_of_limits v) (surface_cause v f)) e in
      let b = both (out_of_limits v) (surface_cause v f) a.1 in
      let c = both (no_such_vertex (vertex_count v) f) (order_cause v f (order_list f)) b.1 in
      (sound a.0 b.0 c.0, c.1)

  pub late_sound : (r : Refusal) → 5 ≤ number_of r → number_of r ≤ 8 → mesh_cause v f n ≡ Err r → Sound v f n × (order_cause v f (order_list f) ≡ Err r)
  unfolding mesh_cause surface_cause
  late_sound r lo hi e =
      let a = skip Not5To8 (count_cause v f n) (or_else (out_of_limits v) (surface_cause v f)) r count-not_late (λ q. q (lo, hi)) e in
      let b = skip (NumberWithin 3 3) (out_of_limits v) (surface_cause v f) r (only_limits v f) (λ q. omega (arith, q.1)) a.1 in
      let c = skip (NumberWithin 4 4) (no_such_vertex (vertex_count v) f) (order_cause v f (order_list f)) r (only-vertex v f) (λ q. omega (arith, q.1)) b.1 in
      (sound a.0 b.0 c.0, c.1)
