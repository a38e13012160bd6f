-- `special_rf_rd::rd` meets its contract. Assumes nothing.
use Rattle.std.proofs.Common.{rules}
use Rattle.doubles.specs.Rounded.{◌⊗◌}
use Rattle.carlson.proofs.RoundLoop.{computed}
use Rattle.special_rf_rd.specs.Constants.{[ε/4]^-⅙}
use Rattle.special_rf_rd.specs.Rd.{duplicate_d, test_d, duplications_d, rd}
use Rattle.special_rf_rd.proofs.rd.Goals as goal

pub returns-then-loop_test : goal.returns-then-loop_test
unfolding rd duplications_d
returns-then-loop_test c =
    let e = computed {t = test_d ([ε/4]^-⅙ ⊗ c.max_distance.result)} {f = duplicate_d} c.repeat-s.ensures (λ s b p. search rules) (λ s r p. p) in
    simp (← c.max_distance.ensures, ← e, ← c.loop_test.ensures, c.if-loop_test.true)

pub returns : goal.returns
unfolding rd duplications_d
returns c =
    let e = computed {t = test_d ([ε/4]^-⅙ ⊗ c.max_distance.result)} {f = duplicate_d} c.repeat-s.ensures (λ s b p. search rules) (λ s r p. p) in
    simp (← c.max_distance.ensures, ← e, ← c.loop_test.ensures, c.if-loop_test.false, c.root.ensures, c.series_d.ensures)
