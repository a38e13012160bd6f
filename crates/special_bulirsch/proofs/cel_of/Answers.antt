-- `special_bulirsch::cel_of` meets its contract. Assumes nothing.
use Rattle.carlson.proofs.RoundLoop.{computed}
use Rattle.special_bulirsch.specs.Bulirsch.{cel_test, turn, cel_of}
use Rattle.special_bulirsch.proofs.cel_of.Goals as goal

pub returns : goal.returns
unfolding cel_of
returns c =
    let e = computed {t = cel_test} {f = turn} c.repeat.ensures (λ s b p. p) (λ s r p. p) in
    simp (c.abs-k.ensures, c.root-sp.ensures, c.first_half-first.ensures, e, c.cel_end.ensures)
