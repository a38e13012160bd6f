-- What work holds after a cause. States: `work_early`: what it was, after the causes 1, 2, 12 (`early_count`), 3 (`early_number`) and 4 (`early_vertex`); `work-order`: the order list
-- first, after 5 to 8 or none. Assumes nothing.
use mathlib.Core.Path.{◌≡◌, refl, ap}
use mathlib.Core.Bool.{Bool, true, false, cond}
use mathlib.Core.List.{List, ◌++◌}
use Prim.Native.Nat.{ℕ}
use native.Mathlib.Omega.{arith}
use lib.ListN.{length, drop}
use lib.Ieee.{Float}
use Rattle.refusals.specs.declared.Refusal.{Refusal}
use Rattle.refusals.specs.declared.Refusal.TheVariants.{Malformed, TooMany, TooShort, OutOfLimits, NoSuchVertex, Flipped, Open, Degenerate, Inverted}
use Rattle.std.specs.Prelude.{Ok, Err}
use Rattle.refusals.specs.Causes.{Cause}
use Rattle.refusals.specs.Numbers.{number_of}
use Rattle.refusals.specs.Causes.{or_else}
use Rattle.mesh_orders.specs.Order.{order_list}
use Rattle.mesh.specs.Surface.{vertex_count}
use Rattle.mesh.specs.Check.{malformed, too_many, too_short, out_of_limits, no_such_vertex, flipped_edge, open_edge, degenerate_face, inverted, count_cause, faces_cause, order_cause, leaves_work, work_after}
use Rattle.mesh.proofs.CauseNumbers.{Only, NumberWithin, only_else, only-malformed, only-many, only_short, only_limits, only-vertex, only_flipped, only_open, only_degenerate, only-inverted}

-- r leaves work as it was, or b is false and it does not
abbrev LeavesWork : Bool → Refusal → Type 0
LeavesWork b r = leaves_work r ≡ b

-- so does a refusal with the number of s, if s does
same_number : (s r : Refusal) → NumberWithin (number_of s) (number_of s) r → leaves_work r ≡ leaves_work s
unfolding leaves_work
same_number s r h = let e : number_of r ≡ number_of s = omega (arith, h.0, h.1) in rw e

module _ (v : List Float) (f : List ℕ) where
  pub early_count : (n : ℕ) → Only (LeavesWork true) (count_cause v f n)
  unfolding count_cause leaves_work
  early_count n =
      only_else (LeavesWork true) (malformed v f) (or_else (too_many v f) (too_short f n)) (λ r e. same_number Malformed r (only-malformed v f r e))
      (only_else (LeavesWork true) (too_many v f) (too_short f n) (λ r e. same_number TooMany r (only-many v f r e)) (λ r e. same_number TooShort r (only_short v f n r e)))

  pub early_number : Only (LeavesWork true) (out_of_limits v)
  unfolding leaves_work
  early_number r e = same_number OutOfLimits r (only_limits v f r e)

  pub early_vertex : Only (LeavesWork true) (no_such_vertex (vertex_count v) f)
  unfolding leaves_work
  early_vertex r e = same_number (NoSuchVertex 0) r (only-vertex v f r e)

  late_order : (o : List ℕ) → Only (LeavesWork false) (order_cause v f o)
  unfolding order_cause faces_cause leaves_work
  late_order o =
      only_else (LeavesWork false) (flipped_edge f o) (or_else (open_edge f o) (faces_cause v f)) (λ r e. same_number (Flipped 0 0) r (only_flipped v f o r e))
      (only_else (LeavesWork false) (open_edge f o) (faces_cause v f) (λ r e. same_number (Open 0 0) r (only_open v f o r e))
      (only_else (LeavesWork false) (degenerate_face v f) (inverted v f) (λ r e. same_number (Degenerate 0) r (only_degenerate v f r e)) (λ r e. same_number Inverted r (only-inverted v f r e))))

module _ (f w : List ℕ) where
  pub work_early : (r : Refusal) → leaves_work r ≡ true → work_after (Err r) f w ≡ w
  unfolding work_after
  work_early r e = ap (λ (b : Bool). cond b w (order_list f ++ drop (length f) w)) e

  work_late : (c : Cause) → Only (LeavesWork false) c → work_after c f w ≡ order_list f ++ drop (length f) w
  unfolding work_after
  work_late (Ok _) h = refl
  work_late (Err r) h = ap (λ (b : Bool). cond b w (order_list f ++ drop (length f) w)) (h r refl)

  pub work-order : (v : List Float) → work_after (order_cause v f (order_list f)) f w ≡ order_list f ++ drop (length f) w
  work-order v = work_late (order_cause v f (order_list f)) (late_order v f (order_list f))
