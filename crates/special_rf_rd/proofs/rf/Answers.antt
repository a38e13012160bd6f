-- `special_rf_rd::rf` meets its contract. Assumes nothing.
use Rattle.std.proofs.Common.{rules}
use Rattle.doubles.specs.Rounded.{◌⊗◌}
use Rattle.carlson.proofs.RoundLoop.{computed}
use Rattle.special_rf_rd.specs.Constants.{[3ε]^-⅙}
use Rattle.special_rf_rd.specs.Rf.{duplicate_f, test_f, duplications_f, rf}
use Rattle.special_rf_rd.proofs.rf.Goals as goal

pub returns-then-loop_test : goal.returns-then-loop_test
unfolding rf duplications_f
returns-then-loop_test c =
    let e = computed {t = test_f ([3ε]^-⅙ ⊗ c.max_distance.result)} {f = duplicate_f} c.repeat-s.ensures (λ s b p. search rules) (λ s r p. p) in
    simp (← c.max_distance.ensures, ← e, ← c.loop_test.ensures, c.if-loop_test.true)

pub returns : goal.returns
unfolding rf duplications_f
returns c =
    let e = computed {t = test_f ([3ε]^-⅙ ⊗ c.max_distance.result)} {f = duplicate_f} c.repeat-s.ensures (λ s b p. search rules) (λ s r p. p) in
    simp (← c.max_distance.ensures, ← e, ← c.loop_test.ensures, c.if-loop_test.false, c.series_f.ensures, c.root.ensures)
