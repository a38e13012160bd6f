-- A mesh is judged by `check_surface_with_mates`, a prism by its sides. Assumes nothing.
use mathlib.Core.Path.{◌≡◌, refl, sym, ap, ap₂, ◌∙◌}
use mathlib.Core.Bool.{Bool, true, false}
use mathlib.Core.List.{List, [], ◌∷◌, ◌++◌}
use Prim.Native.Nat.{ℕ, ◌*◌}
use native.Mathlib.Omega.{arith}
use lib.ListN.{length, drop}
use lib.Ieee.{Float}
use Rattle.refusals.specs.Causes.{unless}
use Rattle.refusals.specs.declared.Refusal.TheVariants.{TooThin}
use Rattle.refusals.specs.Answer.{Answer}
use Rattle.refusals.specs.Causes.{Cause}
use Rattle.newtonian.specs.declared.Vector.{Vector}
use Rattle.mesh_orders.specs.Order.{order_list}
use Rattle.mesh.specs.Surface.{vertex}
use Rattle.mesh.specs.Surface as surface
use Rattle.mesh.specs.Check.{surface_cause, solid_of, leaves_work, work_after}
use Rattle.mesh_check.specs.CheckedMates.{mates_after}
use Rattle.mesh_check.proofs.MatesPut.{no_bytes}
use Rattle.prism.specs.Prism.{sides_within_limits, prism_volume}
use Rattle.sheet_rows.specs.Kinds.{is_mesh}
use Rattle.sheet.specs.Input.{SheetInput}
use Rattle.sheet.specs.Bytes.{volume}
use Rattle.sheet.specs.Writer.{too_thin}
use Rattle.sheet_laws.specs.WriterLaws.{surface_cause_lem, prism-cause}
use Rattle.sheet_body.specs.BodyChecked.{check_body_cause, BodyChecked}

-- without faces there is no order list
no_order : (f w : List ℕ) → length f ≡ 0 → order_list f ++ drop (length f) w ≡ w
unfolding order_list
no_order [] w e = refl
no_order (x ∷ f) w e = absurd (omega arith)

thin_work : (b : Bool) (f w : List ℕ) → length f ≡ 0 → w ≡ work_after (unless b TooThin) f w
unfolding work_after leaves_work
thin_work true f w n = sym (no_order f w n)
thin_work false f w n = refl

module _ (s : SheetInput) where
  pub mesh_checked : {w m p q : List ℕ} {r : (Answer Float)} → is_mesh s.kind ≡ true → r ≡ solid_of (surface_cause s.vertices s.faces) (surface.volume s.vertices s.faces)
      → p ≡ work_after (surface_cause s.vertices s.faces) s.faces w → q ≡ mates_after (surface_cause s.vertices s.faces) s.faces m → BodyChecked s w m r p q
  unfolding volume
  mesh_checked {w = w} {m = m} e a h k = record {
    answer = a ∙ rw e (ap (λ (c : Cause). solid_of c (surface.volume s.vertices s.faces)) (sym (surface_cause_lem s e)));
    work = h ∙ ap (λ (c : Cause). work_after c s.faces w) (sym (surface_cause_lem s e));
    mates = k ∙ ap (λ (c : Cause). mates_after c s.faces m) (sym (surface_cause_lem s e));
  }

  module _ (e : is_mesh s.kind ≡ false) (n : length s.faces ≡ 0) where
    abbrev lo : Vector
    lo = vertex s.vertices 0

    abbrev hi : Vector
    hi = vertex s.vertices 1

    thin : unless (sides_within_limits lo hi) TooThin ≡ check_body_cause s
    unfolding too_thin
    thin = sym (prism-cause s e n)

    measured : prism_volume lo hi ≡ volume s
    unfolding volume
    measured = rw e

    pub prism_checked : (w m : List ℕ) {r : (Answer Float)} → length m ≡ 4 * length s.faces → r ≡ solid_of (unless (sides_within_limits lo hi) TooThin) (prism_volume lo hi) → BodyChecked s w m r w m
    prism_checked w m z a = record {
      answer = a ∙ ap₂ solid_of thin measured;
      work = thin_work (sides_within_limits lo hi) s.faces w n ∙ ap (λ (c : Cause). work_after c s.faces w) thin;
      mates = no_bytes (check_body_cause s) s.faces m (omega (arith, n));
    }
