-- `checker_order::wrong_lists` meets its contract: the causes in order; paired mates are reverses. Assumes nothing.
use mathlib.Core.Path.{◌≡◌, sym, ap, ◌∙◌}
use mathlib.Core.List.{List}
use Prim.Native.Nat.{ℕ, ◌+◌, ◌*◌, ◌-◌}
use native.Mathlib.Omega.{arith}
use lib.ListN.{length, take, drop}
use Rattle.sheet_layout.specs.LittleEndian.{unpack}
use Rattle.sheet_layout.proofs.Lists.{unpack-part}
use Rattle.checker_order.specs.Reverses.{mates_of}
use Rattle.checker_order.proofs.Pairs.{order_alone}
use Rattle.checker_order.proofs.wrong_lists.Goals as goal

-- the mates are read from their part of the sheet
mates_there : (f b : List ℕ) (at : ℕ) → mates_of f (take (at + 4 * length f - at) (drop at b)) ≡ unpack 4 (length f) b at
mates_there f b at =
    let e : at + 0 ≡ at = omega arith in
    unpack-part 4 (length f) (at + 4 * length f - at) b at 0 (omega arith) ∙ ap (unpack 4 (length f) b) e

pub returns-then-all_paired : goal.returns-then-all_paired
returns-then-all_paired c =
    let f = c.args.faces.now in
    rw (← mates_there f c.args.sheet.now c.args.at) (c.wrong_order.ensures ∙ order_alone f _ (c.all_paired.ensures c.if-all_paired.true) _)

pub returns : goal.returns
returns c =
    rw (sym c.wrong_order-2.ensures ∙ c.in_ok-wrong_order.was, ← mates_there c.args.faces.now c.args.sheet.now c.args.at) c.wrong_mate.ensures
