-- `polyhedron_logarithms::ratios_8` meets its contract. Assumes nothing.
use mathlib.Core.Path.{◌≡◌, sym, ap, ◌∙◌}
use Prim.Native.Nat.{◌+◌, ◌%◌, ◌<◌}
use native.Mathlib.Omega.{arith}
use Rattle.lanes.specs.Lanes.{lane}
use Rattle.lanes.proofs.Filling.{one-filled}
use Rattle.polyhedron_logarithms.specs.Seen.{corner_of}
use Rattle.polyhedron_logarithms.proofs.Terms.{next-round, ratio-same}
use Rattle.polyhedron_logarithms.proofs.ratios_8.Goals as goal

pub loop-k-preserved : goal.loop-k-preserved
loop-k-preserved c =
    let s = c.args in
    let k = c.loop-k.k in
    let i = s.from + k in
    let r = c.requires.from_bound in
    let t : k < 8 = c.loop-k-test.true in
    let h : i < 24 = omega (arith, t, r.0, r.1) in
    let j : (i + 8) % 24 ≡ s.to + k = omega (arith, t, r.0, r.1, r.2) in
    let q : s.from + (k + 1) ≡ i + 1 = omega arith in
    let n = ap (corner_of s.c.now) (sym (next-round i (s.to + k) h j)) in
    rw q (one-filled c.loop-k.invariant h (c.ratio_of.ensures ∙ ratio-same (lane s.e.now i) c.at-a.ensures (c.at.ensures ∙ n)))
