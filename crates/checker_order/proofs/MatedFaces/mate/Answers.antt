-- `checker_order::MatedFaces::mate` meets its contract. Assumes nothing.
use mathlib.Core.Path.{◌≡◌, sym, ap, ◌∙◌}
use Prim.Native.Nat.{◌+◌, ◌*◌}
use native.Mathlib.Omega.{arith}
use lib.ListN.{length}
use Rattle.sheet_layout.specs.LittleEndian.{number}
use Rattle.sheet_layout.proofs.Lists.{unpack-at}
use Rattle.checker_order.proofs.MatedFaces.mate.Goals as goal

pub returns : goal.returns
returns c =
    let b = c.args.self.mates.now in
    let e : 4 * c.args.k ≡ 0 + c.args.k * 4 = omega arith in
    c.u32_at.ensures ∙ ap (number 4 b) e ∙ sym (unpack-at 4 (length c.args.self.faces.now) b 0 c.args.k c.requires)
