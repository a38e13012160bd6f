-- `checker_order::wrong_order` meets its contract: the entries so far are edge uses whose edges ascend. Assumes nothing.
use mathlib.Core.Path.{refl}
use native.Mathlib.Omega.{arith}
use lib.ListN.{length}
use Rattle.refusals.specs.declared.Refusal.TheVariants.{WrongOrder}
use Rattle.mesh.proofs.Scans.{scan_start, scan_more, scan_stop, scan_end}
use Rattle.sheet.specs.Checker.{wrong_order, ascends}
use Rattle.checker_order.proofs.Compare.{no_use, last_start, a_use, next_last}
use Rattle.checker_order.proofs.wrong_order.Goals as goal

pub loop-i-init : goal.loop-i-init
loop-i-init g c =
    let f = c.args.faces.now in
    (scan_start (length f) (ascends f c.args.order.now) (λ j. WrongOrder), last_start f c.args.order.now 0)

pub returns-then-faces-u : goal.returns-then-faces-u
unfolding wrong_order
returns-then-faces-u g c =
    let f = c.args.faces.now in
    let o = c.args.order.now in
    scan_stop (length f) (ascends f o) (λ j. WrongOrder) c.loop-i.i (omega arith) c.loop-i.invariant.0 (no_use f o c.loop-i.i _ refl c.if-faces-u.true)

pub returns-then-not-is_above : goal.returns-then-not-is_above
unfolding wrong_order
returns-then-not-is_above g c =
    let f = c.args.faces.now in
    let o = c.args.order.now in
    let e = c.requires.edges.gives _ _ c.if-faces-u.false c.edge_of-e.ensures in
    scan_stop (length f) (ascends f o) (λ j. WrongOrder) c.loop-i.i (omega arith) c.loop-i.invariant.0
    (a_use f o _ _ c.if-faces-u.false e c.loop-i.i _ refl c.loop-i.invariant.1 c.is_above.ensures c.if-not-is_above.true)

pub loop-i-preserved : goal.loop-i-preserved
loop-i-preserved g c =
    let f = c.args.faces.now in
    let o = c.args.order.now in
    let e = c.requires.edges.gives _ _ c.if-faces-u.false c.edge_of-e.ensures in (
      scan_more (length f) (ascends f o) (λ j. WrongOrder) c.loop-i.i c.loop-i.invariant.0
          (a_use f o _ _ c.if-faces-u.false e c.loop-i.i _ refl c.loop-i.invariant.1 c.is_above.ensures c.if-not-is_above.false),
      next_last f o _ _ c.if-faces-u.false e c.loop-i.i refl,
    )

pub returns : goal.returns
unfolding wrong_order
returns g c =
    let f = c.args.faces.now in
    scan_end (length f) (ascends f c.args.order.now) (λ j. WrongOrder) c.loop-i.i (omega arith) (omega (arith, c.requires.size)) c.loop-i.invariant.0
