-- `sheet_layout::read_all` meets its contract: so far, the first i numbers are read. Assumes nothing.
use mathlib.Core.Path.{ap, ◌∙◌}
use Prim.Native.Nat.{ℕ, ◌+◌, ◌*◌}
use native.Mathlib.Omega.{arith}
use Rattle.sheet_layout.specs.LittleEndian.{number}
use Rattle.sheet_layout.proofs.Turns.{read_turn, read_end}
use Rattle.sheet_layout.proofs.read_all.Goals as goal

pub loop-i-preserved : goal.loop-i-preserved
loop-i-preserved g c =
    let a = c.args in
    let t = g.T.Stored in
    read_turn t.of_number t.SIZE a.xs.now a.s.now a.at c.loop-i.i c.at.result c.loop-i.invariant
    (c.at.ensures ∙ ap (λ (k : ℕ). t.of_number (number t.SIZE a.s.now (a.at + k * c.loop-i.i))) c.SIZE.ensures)

pub returns : goal.returns
returns g c =
    let a = c.args in
    read_end g.T.Stored.of_number g.T.Stored.SIZE a.xs.now a.s.now a.at c.loop-i.i (omega arith) c.loop-i.invariant
