-- `lanes_ln::scale_of` meets its contract. Assumes nothing.
use mathlib.Core.Path.{refl}
use mathlib.Core.Bool.{false}
use Prim.Native.Nat.{◌+◌, ◌/◌, ◌^◌, ◌≤◌}
use native.Mathlib.Omega.{arith}
use lib.Dec.{lit≤}
use lib.Ieee.{binary64, of_bits, of_int}
use lib.Ieee.Back.{round_whole}
use Rattle.lanes_ln.specs.LnLanes.{half, scale_of}
use Rattle.lanes_ln.proofs.Whole.{sub-whole}
use Rattle.lanes_ln.proofs.scale_of.Goals as goal

pub returns : goal.returns
unfolding scale_of of_int of_bits
returns c =
    let b = c.args.b in
    let n = b / 2 ^ 52 + half b in
    let l : n ≤ 2 ^ 53 = omega arith in
    sub-whole _ _ n 1023 (round_whole binary64 false n l) (refl, refl) l (lit≤ tt)
