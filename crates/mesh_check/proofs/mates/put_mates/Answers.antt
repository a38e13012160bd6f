-- `mesh_check::mates::put_mates` meets its contract: so far, the mates of the first k uses of the order list are written. Assumes nothing.
use mathlib.Core.Path.{sym, subst}
use mathlib.Core.List.{List}
use Prim.Native.Nat.{ℕ, ◌+◌}
use Rattle.std.proofs.Common.{arith}
use Rattle.std.proofs.lemmas.Grind.{common_steps}
use lib.ListN.{length}
use Rattle.mesh_orders.specs.Mates.{mates}
use Rattle.sheet_layout.specs.LittleEndian.{pack}
use Rattle.mesh_check.proofs.MatesPut.{PutSoFar, full, none_lent, put-more, all-mates}
use Rattle.mesh_check.proofs.mates.put_mates.Goals as goal

pub returns-then-is_empty : goal.returns-then-is_empty
returns-then-is_empty c = λ f q m. none_lent c.args.out.now (pack 4 (mates f)) (grind (arith, common_steps, c.is_empty.ensures, c.if-is_empty.true))

pub loop-k-preserved : goal.loop-k-preserved
loop-k-preserved c =
    let lent = full (length c.args.order.now) (length c.args.out.now) c.requires.2 (λ e. grind (arith, common_steps, c.is_empty.ensures, c.if-is_empty.false, e)) in
    let o = c.args.order.now in
    let p = c.args.partners.now in
    subst (λ (l : List ℕ). PutSoFar o p l (c.loop-k.k + 1)) (sym c.put_u32.ensures)
    (put-more o p c.loop-k.out c.loop-k.k c.loop-k.invariant (omega arith) (omega (arith, lent)))

pub returns : goal.returns
returns c =
    let lent = full (length c.args.order.now) (length c.args.out.now) c.requires.2 (λ e. grind (arith, common_steps, c.is_empty.ensures, c.if-is_empty.false, e)) in
    all-mates c.args.order.now c.args.partners.now c.loop-k.out c.loop-k.k c.loop-k.invariant c.args.out.now lent (omega arith) (omega arith)
