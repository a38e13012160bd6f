-- `rings::elliptic` meets its contract. Assumes nothing.
use Rattle.carlson.proofs.RoundLoop.{computed}
use Rattle.rings.specs.Elliptic.{mean_test, next_mean, elliptic}
use Rattle.rings.proofs.elliptic.Goals as goal

pub returns : goal.returns
unfolding elliptic
returns c =
    let e = computed {t = mean_test} {f = next_mean} c.repeat-s.ensures (λ s b p. p) (λ s r p. p) in
    simp (c.root-b.ensures, c.root-c.ensures, e)
