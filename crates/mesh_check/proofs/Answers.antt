-- The answers of `check_mesh`, return by return. States: `not-counted`, `out-of-limits`: what it owes after 1, 2, 12 and after 3; `go_on`: else `check_surface` decides.
-- Assumes nothing.
use mathlib.Core.Path.{◌≡◌, sym, ap, ◌∙◌}
use mathlib.Core.Bool.{true}
use mathlib.Core.List.{List}
use Prim.Native.Nat.{ℕ}
use lib.ListN.{length}
use lib.Ieee.{Float}
use Rattle.refusals.specs.declared.Refusal.{Refusal}
use Rattle.std.specs.Prelude.{Ok, Err}
use Rattle.refusals.specs.Answer.{or_answer}
use Rattle.refusals.specs.Causes.{Cause}
use Rattle.refusals.specs.Causes.{or_else}
use Rattle.mesh.specs.Surface.{volume}
use Rattle.mesh.specs.Check.{out_of_limits, count_cause, surface_cause, mesh_cause, check_mesh, leaves_work, work_after}
use Rattle.mesh_check.proofs.Work.{early_count, early_number, work_early}

module _ (v : List Float) (f w : List ℕ) where
  -- what it owes where it returns the refusal r and has not touched work
  abbrev ReturnsEarly : Refusal → Type 0
  ReturnsEarly r = (Err r ≡ check_mesh v f (length w)) × (w ≡ work_after (mesh_cause v f (length w)) f w)

  early : (r : Refusal) → mesh_cause v f (length w) ≡ Err r → leaves_work r ≡ true → ReturnsEarly r
  unfolding check_mesh
  early r e l = (sym (ap (λ (c : Cause). or_answer c (Ok (volume v f))) e), sym (ap (λ (c : Cause). work_after c f w) e ∙ work_early f w r l))

  pub not-counted : (r : Refusal) → count_cause v f (length w) ≡ Err r → ReturnsEarly r
  unfolding mesh_cause
  not-counted r e = early r (ap (λ (c : Cause). or_else c (or_else (out_of_limits v) (surface_cause v f))) e) (early_count v f (length w) r e)

  module _ (h : count_cause v f (length w) ≡ Ok tt) where
    counted : mesh_cause v f (length w) ≡ or_else (out_of_limits v) (surface_cause v f)
    unfolding mesh_cause
    counted = ap (λ (c : Cause). or_else c (or_else (out_of_limits v) (surface_cause v f))) h

    pub out-of-limits : (r : Refusal) → out_of_limits v ≡ Err r → ReturnsEarly r
    out-of-limits r e = early r (counted ∙ ap (λ (c : Cause). or_else c (surface_cause v f)) e) (early_number v f r e)

    pub go_on : out_of_limits v ≡ Ok tt → mesh_cause v f (length w) ≡ surface_cause v f
    go_on e = counted ∙ ap (λ (c : Cause). or_else c (surface_cause v f)) e
