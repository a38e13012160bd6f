-- Laws of a loop of at most n rounds. States: `stop` and `none_left`: where it ends; `one_more`: how it goes on; `at_most`: how many rounds it makes. Assumes nothing.
use Prim.Native.Nat.{ℕ, zero, suc, ◌+◌, ◌≤◌}
use Rattle.std.proofs.Common.{arith, le_trans, le_of_eq, le-add_right, sym, ap}
use Rattle.std.specs.Prelude.{Bool, false, ◌≡◌}
use Rattle.std.proofs.Math.Bool.{true}
use Rattle.std.proofs.Math.Path.{refl, subst}
use Rattle.carlson.specs.Rounds.{rounds_from, rounds}

module _ {S : Type 0} (test : S → Bool) (step : S → S) where
  at_false : (n : ℕ) (s : S) → rounds_from test step n s false ≡ s
  unfolding rounds_from
  at_false zero s = refl
  at_false (suc n) s = refl

  -- the test fails
  pub stop : (n : ℕ) (s : S) → test s ≡ false → rounds test step n s ≡ s
  stop n s e = subst (λ (b : Bool). rounds_from test step n s b ≡ s) (sym e) (at_false n s)

  -- no round is left
  pub none_left : (n : ℕ) (s : S) → n ≡ 0 → rounds test step n s ≡ s
  unfolding rounds_from
  none_left n s z = subst (λ (k : ℕ). rounds test step k s ≡ s) (sym z) refl

  -- one more round
  pub one_more : (n m : ℕ) (s : S) → n ≡ suc m → test s ≡ true → rounds test step n s ≡ rounds test step m (step s)
  unfolding rounds_from
  one_more n m s z e =
      subst (λ (b : Bool). rounds_from test step n s b ≡ rounds test step m (step s)) (sym e)
      (subst (λ (k : ℕ). rounds_from test step k s true ≡ rounds test step m (step s)) (sym z) refl)

  -- where each round adds one to a count, n rounds add at most n
  module _ (count : S → ℕ) (adds : (s : S) → count (step s) ≡ count s + 1) where
    pub at_most : (n : ℕ) (s : S) → count (rounds test step n s) ≤ count s + n
    at_most zero s = le_trans (le_of_eq (ap count (none_left 0 s refl))) (le-add_right (count s) 0)
    at_most (suc n) s = go (test s) refl (at_most n (step s))
      where
        go : (b : Bool) → test s ≡ b → count (rounds test step n (step s)) ≤ count (step s) + n → count (rounds test step (suc n) s) ≤ count s + suc n
        go false t h = le_trans (le_of_eq (ap count (stop (suc n) s t))) (le-add_right (count s) (suc n))
        go true t h = let a = adds s in le_trans (le_of_eq (ap count (one_more (suc n) n s refl t))) (omega arith)
