-- The volume of a sheet's body, and the causes 7 and 8, or 9, of the lists that were read from it. Assumes nothing.
use mathlib.Core.Path.{◌≡◌, refl}
use mathlib.Core.Bool.{true, false}
use mathlib.Core.List.{List}
use Prim.Native.Nat.{ℕ}
use native.Mathlib.Omega.{arith}
use lib.Ieee.{Float, binary64, to_bits}
use lib.Dec.{eqb}
use Rattle.refusals.specs.Causes.{unless}
use Rattle.refusals.specs.declared.Refusal.{Refusal}
use Rattle.refusals.specs.declared.Refusal.TheVariants.{TooThin, WrongVolume}
use Rattle.std.specs.Prelude.{Ok, Err}
use Rattle.refusals.specs.Causes.{Cause}
use Rattle.mesh.specs.Surface as surface
use Rattle.mesh.specs.Check.{faces_cause, solid_of}
use Rattle.prism.specs.Prism.{sides_within_limits, prism_volume}
use Rattle.sheet_rows.specs.Kinds.{is_mesh}
use Rattle.sheet.specs.Bytes.{volume}
use Rattle.sheet.specs.Writer.{too_thin}
use Rattle.sheet.specs.Checker.{kind_in, volume_in, parse, solid_cause, wrong_volume}
use Rattle.sheet_laws.specs.Reading.{kind_read}
use Rattle.sheet_laws.specs.AcceptedLaws.{solid-mesh}
use Rattle.checker_lists.specs.Stages.{volume_cause}

module _ (b : List ℕ) {v : List Float} {f : List ℕ} (ev : v ≡ (parse b).vertices) (ef : f ≡ (parse b).faces) where
  pub of_mesh : is_mesh (kind_in b) ≡ true → solid_of (faces_cause v f) (surface.volume v f) ≡ solid_of (solid_cause (parse b)) (volume (parse b))
  unfolding volume
  of_mesh m = let k : is_mesh (parse b).kind ≡ true = rw (kind_read b) m in rw (solid-mesh (parse b) k, k, ev, ef)

  pub of_prism : is_mesh (kind_in b) ≡ false
      → solid_of (unless (sides_within_limits (surface.vertex v 0) (surface.vertex v 1)) TooThin) (prism_volume (surface.vertex v 0) (surface.vertex v 1)) ≡ solid_of (solid_cause (parse b)) (volume (parse b))
  unfolding solid_cause too_thin volume
  of_prism m = rw (kind_read b, m, ← ev)

-- ---- the answer: a refusal, or the volume x

refused-cause : (c : Cause) (x : Float) {r : Refusal} → Err r ≡ solid_of c x → c ≡ Err r
refused-cause (Ok _) x e = absurd (let z : ◌≡◌ {A = ℕ} 0 1 = cc in omega arith)
refused-cause (Err s) x e = cc

no_cause : (c : Cause) (x : Float) {y : Float} → Ok y ≡ solid_of c x → (c ≡ Ok tt) × (y ≡ x)
no_cause (Ok _) x e = (refl, cc)
no_cause (Err s) x e = absurd (let z : ◌≡◌ {A = ℕ} 0 1 = cc in omega arith)

module _ (b : List ℕ) where
  pub refused-solid : (r : Refusal) → Err r ≡ solid_of (solid_cause (parse b)) (volume (parse b)) → Err r ≡ volume_cause b
  unfolding volume_cause
  refused-solid r e = rw (refused-cause (solid_cause (parse b)) (volume (parse b)) e)

  module _ (x : Float) (e : Ok x ≡ solid_of (solid_cause (parse b)) (volume (parse b))) where
    pub other-volume : eqb (volume_in b) (to_bits binary64 x) ≡ false → Err WrongVolume ≡ volume_cause b
    unfolding volume_cause wrong_volume
    other-volume d = let p = no_cause (solid_cause (parse b)) (volume (parse b)) e in rw (p.0, ← p.1, d)

    pub same-volume : eqb (volume_in b) (to_bits binary64 x) ≡ true → Ok tt ≡ volume_cause b
    unfolding volume_cause wrong_volume
    same-volume d = let p = no_cause (solid_cause (parse b)) (volume (parse b)) e in rw (p.0, ← p.1, d)
