-- `sheet_layout::put_all` meets its contract: so far, the first i numbers are written. Assumes nothing.
use mathlib.Core.Path.{ap, ◌∙◌}
use mathlib.Core.List.{map}
use Prim.Native.Nat.{ℕ, ◌+◌, ◌*◌}
use native.Mathlib.Omega.{arith}
use lib.ListN.{length-map}
use lib.Seq.{sets}
use Rattle.sheet_layout.specs.LittleEndian.{bytes}
use Rattle.sheet_layout.proofs.Turns.{map_at, put-turn}
use Rattle.sheet_layout.proofs.put_all.Goals as goal

pub loop-i-preserved : goal.loop-i-preserved
loop-i-preserved g c =
    let a = c.args in
    let t = g.T.Stored in
    let x = c.index-xs-i.result in
    put-turn t.SIZE a.s.now a.at c.loop-i.i (map t.as_number a.xs.now) (omega (arith, length-map a.xs.now t.as_number)) c.loop-i.invariant
    (map_at t.as_number a.xs.now c.loop-i.i x (omega arith) c.index-xs-i.is)
    (c.put.ensures ∙ ap (λ (k : ℕ). sets c.loop-i.s (a.at + k * c.loop-i.i) (bytes t.SIZE (t.as_number x))) c.SIZE.ensures)
