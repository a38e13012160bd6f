-- `carlson::rc_above` meets its contract. Assumes nothing.
use Rattle.std.proofs.Common.{◌≡◌, ℕ, ◌+◌, ap, ◌∙◌, arith, rules}
use Rattle.doubles.specs.Rounded.{◌⊗◌}
use Rattle.carlson.specs.Constants.{[3ε]^-⅛}
use Rattle.carlson.specs.Rounds.{Steps}
use Rattle.carlson.specs.Rounds.Steps.{none, one_more}
use Rattle.carlson.specs.Rc.{duplicate_c, test_c, duplications_c, rc_above}
use Rattle.carlson.specs.declared.RoundC.{RoundC}
use Rattle.carlson.proofs.RoundLoop.{computed}
use Rattle.carlson.proofs.rc_above.Goals as goal

next : (s : RoundC) → (duplicate_c s).n ≡ s.n + 1
unfolding duplicate_c
next s = omega arith

-- n counts the steps
counted : {step : RoundC → RoundC → Type 0} {s : RoundC} → ((s r : RoundC) → step s r → r ≡ duplicate_c s) → {k : ℕ} {t : RoundC} → Steps step s k t → t.n ≡ s.n + k
counted steps none = omega arith
counted steps (one_more {n} {t} {u} h q) = let e = ap (λ (d : RoundC). d.n) (steps t u q) ∙ next t in let i = counted steps h in omega arith

pub repeat-s-requires-clause-steps : goal.repeat-s-requires-clause-steps
repeat-s-requires-clause-steps c = λ k s less h. let i = counted (λ s r p. p) h in omega arith

pub returns-then-loop_test : goal.returns-then-loop_test
unfolding duplications_c rc_above
returns-then-loop_test c =
    let e = computed {t = test_c ([3ε]^-⅛ ⊗ c.abs.result)} {f = duplicate_c} c.repeat-s.ensures (λ s b p. search rules) (λ s r p. p) in
    simp (← c.abs.ensures, ← e, ← c.loop_test.ensures, c.if-loop_test.true)

pub returns : goal.returns
unfolding duplications_c rc_above
returns c =
    let e = computed {t = test_c ([3ε]^-⅛ ⊗ c.abs.result)} {f = duplicate_c} c.repeat-s.ensures (λ s b p. search rules) (λ s r p. p) in
    simp (← c.abs.ensures, ← e, ← c.loop_test.ensures, c.if-loop_test.false, c.root.ensures, c.series_c.ensures)
