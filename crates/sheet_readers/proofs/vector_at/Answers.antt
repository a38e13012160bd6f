-- `sheet_readers::vector_at` meets its contract. Assumes nothing.
use mathlib.Core.Path.{◌≡◌}
use Prim.Native.Nat.{◌+◌}
use native.Mathlib.Omega.{arith}
use Rattle.sheet_layout.specs.LittleEndian.{unpack}
use Rattle.sheet_readers.proofs.vector_at.Goals as goal

pub returns : goal.returns
unfolding unpack
returns c =
    let at = c.args.at in
    let e : at + 16 ≡ at + 8 + 8 = omega arith in
    rw (c.f64_at.ensures, c.f64_at-2.ensures, c.f64_at-3.ensures, e)
