-- Rounds counted from the end, where `rounds` counts them from the start. States: `one_last`: a round more is one made last; `no_more`: where the test fails after n rounds, the
-- state is that of any larger number. Assumes nothing.
use mathlib.Core.Path.{◌≡◌, refl, sym, ap, ◌∙◌}
use mathlib.Core.Bool.{Bool, true, false, cond}
use Prim.Native.Nat.{ℕ, zero, suc, ◌+◌}
use native.Mathlib.Omega.{arith}
use Rattle.carlson.specs.Rounds.{rounds}
use Rattle.carlson.specs.RoundLaws.{stop, none_left, one_more}

module _ {S : Type 0} (test : S → Bool) (step : S → S) where
  -- a round where the test holds
  abbrev last : S → S
  last s = cond (test s) (step s) s

  last-fails : (s : S) → test s ≡ false → last s ≡ s
  last-fails s e = ap (λ (t : Bool). cond t (step s) s) e

  pub one_last : (n : ℕ) (s : S) → rounds test step (suc n) s ≡ last (rounds test step n s)
  one_last zero s = go (test s) refl
    where
      go : (b : Bool) → test s ≡ b → rounds test step 1 s ≡ last (rounds test step 0 s)
      go false e = stop test step 1 s e ∙ sym (ap last (none_left test step 0 s refl) ∙ last-fails s e)
      go true e =
          one_more test step 1 0 s refl e ∙ none_left test step 0 (step s) refl
          ∙ sym (ap last (none_left test step 0 s refl) ∙ ap (λ (t : Bool). cond t (step s) s) e)
  one_last (suc m) s = go (test s) refl (one_last m (step s))
    where
      go : (b : Bool) → test s ≡ b → rounds test step (suc m) (step s) ≡ last (rounds test step m (step s)) → rounds test step (suc (suc m)) s ≡ last (rounds test step (suc m) s)
      go false e h = stop test step (suc (suc m)) s e ∙ sym (ap last (stop test step (suc m) s e) ∙ last-fails s e)
      go true e h = one_more test step (suc (suc m)) (suc m) s refl e ∙ h ∙ sym (ap last (one_more test step (suc m) m s refl e))

  pub no_more : (n m : ℕ) (s : S) → test (rounds test step n s) ≡ false → rounds test step (n + m) s ≡ rounds test step n s
  no_more n zero s e = ap (λ (k : ℕ). rounds test step k s) (let z : n + 0 ≡ n = omega arith in z)
  no_more n (suc m) s e =
      ap (λ (k : ℕ). rounds test step k s) (let z : n + suc m ≡ suc (n + m) = omega arith in z) ∙ one_last (n + m) s
      ∙ ap last (no_more n m s e) ∙ last-fails (rounds test step n s) e
