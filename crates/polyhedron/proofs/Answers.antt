-- The answers of `polyhedron`, return by return. Assumes nothing.
use mathlib.Core.Path.{◌≡◌, sym, ap, ◌∙◌}
use mathlib.Core.Bool.{Bool, true, false}
use mathlib.Core.List.{List, ◌++◌}
use Prim.Native.Nat.{ℕ, ◌≤◌}
use native.Mathlib.Omega.{arith}
use lib.ListN.{length, take, drop, length-append}
use lib.Ieee.{Float}
use Rattle.std.specs.Prelude.{Ok, Err}
use Rattle.refusals.specs.Answer.{Answer, or_answer}
use Rattle.refusals.specs.Causes.{Cause}
use Rattle.refusals.specs.Causes.{or_else, unless}
use Rattle.refusals.proofs.Causes.{both}
use Rattle.refusals.specs.declared.Refusal.{Refusal}
use Rattle.refusals.specs.declared.Refusal.TheVariants.{OutOfLimits}
use Rattle.newtonian.specs.declared.Vector.{Vector}
use Rattle.newtonian.specs.declared.Newtonian.{Newtonian}
use Rattle.mesh_orders.specs.Order.{order_list}
use Rattle.mesh_orders.specs.OrderLaws.{order-length}
use Rattle.newtonian.specs.Vectors.{vector_within_limits}
use Rattle.mesh.specs.Surface.{Body, volume}
use Rattle.mesh.specs.Accepted.{Counted}
use Rattle.mesh.specs.CauseLaws.{none-count}
use Rattle.mesh.specs.Check.{count_cause, out_of_limits, surface_cause, mesh_cause, solid_of, check_mesh, leaves_work, work_after}
use Rattle.mesh_laws.proofs.Laws.{checked, solid-volume, solid-refused, answer-refused, work-front}
use Rattle.mesh_check.proofs.Answers.{not-counted}
use Rattle.mesh_check.proofs.Work.{early_number, work_early}
use Rattle.polyhedron.specs.Polyhedron.{station_out_of_limits, given_cause, polyhedron_cause, polyhedron_at, polyhedron}

module _ (p : Vector) (v : List Float) (f w : List ℕ) where
  -- what `polyhedron` owes where it answers a and work holds w'
  abbrev pub Owed : Answer Newtonian → List ℕ → Type 0
  Owed a w' = (a ≡ polyhedron p v f (length w)) × (w' ≡ work_after (polyhedron_cause p v f (length w)) f w)

  -- what it has after the check, where work holds w': a body, and the order list at the front
  pub record Success (w' : List ℕ) : Type 0 where
    pub body : Body v f
    pub front : take (length f) w' ≡ order_list f
    pub room : length f ≤ length w'
    pub answered : (a : Answer Newtonian) → a ≡ polyhedron_at 0 p v f → Owed a w'

  refuses : (r : Refusal) → polyhedron_cause p v f (length w) ≡ Err r → Owed (Err r) (work_after (Err r) f w)
  unfolding polyhedron
  refuses r e = (sym (ap (λ (c : Cause). or_answer c (polyhedron_at 0 p v f)) e), sym (ap (λ (c : Cause). work_after c f w) e))

  counts-leave : (r : Refusal) → count_cause v f (length w) ≡ Err r → work_after (Err r) f w ≡ w
  unfolding check_mesh
  counts-leave r e =
      let q = not-counted v f w r e in
      sym (q.1 ∙ ap (λ (c : Cause). work_after c f w) (answer-refused (mesh_cause v f (length w)) (volume v f) r (sym q.0)))

  station-leaves : (b : Bool) (r : Refusal) → unless b OutOfLimits ≡ Err r → leaves_work r ≡ true
  unfolding leaves_work
  station-leaves true r e = absurd (let z : ◌≡◌ {A = ℕ} 0 1 = cc in omega arith)
  station-leaves false r e = let q : OutOfLimits ≡ r = cc in ap leaves_work (sym q)

  in_turn : (a b c : Cause) (r : Refusal) (P : Type 0) → (a ≡ Err r → P) → (b ≡ Err r → P) → (c ≡ Err r → P) → or_else a (or_else b c) ≡ Err r → P
  in_turn (Err x) b c r P f g h e = f e
  in_turn (Ok _) (Err x) c r P f g h e = g e
  in_turn (Ok _) (Ok _) c r P f g h e = h e

  given_leaves : (r : Refusal) → given_cause p v f (length w) ≡ Err r → work_after (Err r) f w ≡ w
  unfolding given_cause
  given_leaves r e =
      in_turn (count_cause v f (length w)) (out_of_limits v) (station_out_of_limits p) r (work_after (Err r) f w ≡ w)
      (λ q. counts-leave r q)
      (λ q. work_early f w r (early_number v f r q))
      (λ q. work_early f w r (station-leaves (vector_within_limits p) r q))
      e

  -- 1, 2, 12 or 3
  pub not-given : (r : Refusal) → given_cause p v f (length w) ≡ Err r → Owed (Err r) w
  unfolding polyhedron_cause
  not-given r e =
      let q = refuses r (ap (λ (c : Cause). or_else c (surface_cause v f)) e) in
      (q.0, sym (given_leaves r e) ∙ q.1)

  module _ (h : given_cause p v f (length w) ≡ Ok tt) where
    pub counted : Counted v f (length w)
    unfolding given_cause
    counted = none-count v f (length w) (both (count_cause v f (length w)) (or_else (out_of_limits v) (station_out_of_limits p)) h).0

    to-surface : polyhedron_cause p v f (length w) ≡ surface_cause v f
    unfolding polyhedron_cause
    to-surface = ap (λ (c : Cause). or_else c (surface_cause v f)) h

    module _ (w' : List ℕ) (e : w' ≡ work_after (surface_cause v f) f w) where
      owed-work : w' ≡ work_after (polyhedron_cause p v f (length w)) f w
      owed-work = e ∙ sym (ap (λ (c : Cause). work_after c f w) to-surface)

      -- 4 to 8
      pub not-accepted : (r : Refusal) → solid_of (surface_cause v f) (volume v f) ≡ Err r → Owed (Err r) w'
      not-accepted r q = ((refuses r (to-surface ∙ solid-refused (surface_cause v f) (volume v f) r q)).0, owed-work)

      no_cause : (x : Float) → solid_of (surface_cause v f) (volume v f) ≡ Ok x → surface_cause v f ≡ Ok tt
      no_cause x q = (solid-volume (surface_cause v f) (volume v f) x q).0

      -- the field, or 11
      pub success : (x : Float) → solid_of (surface_cause v f) (volume v f) ≡ Ok x → Success w'
      unfolding work_after polyhedron
      success x q =
          let n = no_cause x q in
          let o : w' ≡ order_list f ++ drop (length f) w = e ∙ ap (λ (c : Cause). work_after c f w) n in
          record {
            body = (checked v f (length w) counted n).body;
            front = ap (take (length f)) o ∙ work-front v f (length w) w;
            room = omega (arith, ap length o, length-append (order_list f) (drop (length f) w), order-length f);
            answered = λ a m. (m ∙ sym (ap (λ (c : Cause). or_answer c (polyhedron_at 0 p v f)) (to-surface ∙ n)), owed-work);
          }
