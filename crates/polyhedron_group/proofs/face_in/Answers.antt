-- `polyhedron_group::face_in` meets its contract. Assumes nothing.
use mathlib.Core.Path.{◌∙◌}
use mathlib.Core.Logic.{⊎_elim}
use Prim.Native.Nat.{◌+◌}
use native.Mathlib.Omega.{arith}
use borrow.Author.Tests.{le-ltb, lt-ltb}
use Rattle.lists.proofs.Numbers.{below?}
use Rattle.polyhedron_group.specs.Group.{face_in}
use Rattle.polyhedron_group.proofs.face_in.Goals as goal

pub returns : goal.returns
unfolding face_in
returns c =
    let n = c.args.n in
    let i = c.args.first + c.args.k in
    c.min.ensures ∙ ⊎_elim (λ l. simp (lt-ltb i n l) (omega (arith, l, c.requires.0))) (λ l. simp (le-ltb i n l) (omega (arith, l))) (below? i n)
