-- The loop of `repeat`, one round at a time; and what it returns where the test and the step compute functions. Assumes nothing.
use Rattle.std.proofs.Common.{◌≡◌, refl, sym, ap, ◌∙◌, subst, Bool, true, false, ℕ, suc, ◌+◌, add-one}
use Rattle.carlson.specs.Rounds.{Steps, Rounds, rounds}
use Rattle.carlson.specs.Rounds.Steps.{one_more}
use Rattle.carlson.specs.Rounds.Rounds.{none_left, stop, round}
use Rattle.carlson.specs.RoundLaws as laws

module _ {S : Type 0} {test : S → Bool → Type 0} {step : S → S → Type 0} where
  pub of_count : {n m : ℕ} {s t : S} → n ≡ m → Rounds test step n s t → Rounds test step m s t
  of_count {s} {t} e h = let P : ℕ → Type 0 = λ i. Rounds test step i s t in subst P e h

  -- the test's result is false
  pub stopped : {n : ℕ} {s : S} {b : Bool} → test s b → b ≡ false → Rounds test step n s s
  stopped {n} {s} t e = stop (subst (test s) e t)

  -- a round is made, and m are left of n
  pub one-round : {n m : ℕ} {s t u : S} {b : Bool} → n ≡ m + 1 → test s b → b ≡ true → step s t → Rounds test step m t u → Rounds test step n s u
  one-round {n} {m} {s} z p e q h = of_count (sym (z ∙ add-one m)) (round (subst (test s) e p) q h)

  -- no round is left of n
  pub all_made : {n : ℕ} {s : S} → n ≡ 0 → Rounds test step n s s
  all_made z = of_count (sym z) none_left

  -- where the test computes t and the step f
  pub computed : {t : S → Bool} {f : S → S} {n : ℕ} {s r : S} → Rounds test step n s r → ((s : S) (b : Bool) → test s b → b ≡ t s) → ((s r : S) → step s r → r ≡ f s) → r ≡ rounds t f n s
  computed {t} {f} {r} none_left tests steps = sym (laws.none_left t f 0 r refl)
  computed {t} {f} {n} {r} (stop p) tests steps = sym (laws.stop t f n r (sym (tests r false p)))
  computed {t} {f} (round {n} {s} {t = u} p q h) tests steps =
      computed h tests steps ∙ sym (laws.one_more t f (suc n) n s refl (sym (tests s true p)) ∙ ap (rounds t f n) (sym (steps s u q)))

module _ {S : Type 0} {step : S → S → Type 0} where
  -- k is one step more than n
  pub one-step : {n k : ℕ} {s t u : S} → k ≡ n + 1 → Steps step s n t → step t u → Steps step s k u
  one-step {n} {k} {s} {t} {u} e h q = let P : ℕ → Type 0 = λ i. Steps step s i u in subst P (sym (e ∙ add-one n)) (one_more h q)
