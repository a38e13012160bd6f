-- The loops over the faces: the faces so far have normals, and the sum so far is the fold so far. Assumes nothing.
use mathlib.Core.Path.{◌≡◌, ap, ◌∙◌}
use mathlib.Core.Bool.{not, true, false}
use mathlib.Core.List.{List}
use Prim.Native.Nat.{ℕ, ◌+◌, ◌≤◌, ◌<◌}
use native.Mathlib.Omega.{arith}
use lib.Ieee.{Float}
use Rattle.doubles.specs.Constants.{0·0}
use Rattle.newtonian.specs.Fold.{Fold}
use Rattle.refusals.specs.declared.Refusal.TheVariants.{Degenerate}
use Rattle.std.specs.Prelude.{Ok, Err}
use Rattle.refusals.specs.Causes.{unless, first_of}
use Rattle.mesh.specs.Surface.{face_count, normal, is_zero, add_face_volume, volume}
use Rattle.mesh.specs.Check.{has_normal, degenerate_face}
use Rattle.mesh.proofs.Scans.{scan_start, scan_more, scan_stop, scan_end}

module _ (v : List Float) (f : List ℕ) where
  -- none of the first k faces is degenerate
  abbrev pub Normals : ℕ → Type 0
  Normals k = first_of k (λ j. unless (has_normal v f j) (Degenerate j)) ≡ Ok tt

  pub normals-start : Normals 0
  normals-start = scan_start (face_count f) (has_normal v f) (λ k. Degenerate k)

  pub normals-more : (k : ℕ) → Normals k → is_zero (normal v f k) ≡ false → Normals (k + 1)
  normals-more k h e = scan_more (face_count f) (has_normal v f) (λ k. Degenerate k) k h (ap not e)

  pub normals_stop : (k : ℕ) → k < face_count f → Normals k → is_zero (normal v f k) ≡ true → Err (Degenerate k) ≡ degenerate_face v f
  unfolding degenerate_face
  normals_stop k l h e = scan_stop (face_count f) (has_normal v f) (λ k. Degenerate k) k l h (ap not e)

  pub normals-end : (k : ℕ) → k ≤ face_count f → face_count f ≤ k → Normals k → Ok tt ≡ degenerate_face v f
  unfolding degenerate_face
  normals-end k a b h = scan_end (face_count f) (has_normal v f) (λ k. Degenerate k) k a b h

  pub sum-end : (s : Float) (k : ℕ) → k ≤ face_count f → face_count f ≤ k → s ≡ Fold k (add_face_volume v f) 0·0 → s ≡ volume v f
  unfolding volume
  sum-end s k a b h = h ∙ ap (λ (n : ℕ). Fold n (add_face_volume v f) 0·0) (let e : k ≡ face_count f = omega arith in e)
