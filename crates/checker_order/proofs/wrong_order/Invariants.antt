-- `checker_order::wrong_order` meets its contract: the entries so far are edge uses whose edges ascend. Assumes nothing.
use mathlib.Core.Path.{◌≡◌}
use Rattle.refusals.specs.declared.Refusal.TheVariants.{WrongOrder}
use Rattle.std.specs.Prelude.{Ok}
use Rattle.refusals.specs.Causes.{unless, first_of}
use Rattle.sheet.specs.Checker.{ascends}
use Rattle.checker_order.proofs.Compare.{Last}
use Rattle.checker_order.proofs.wrong_order.Given as goal

abbrev pub invariant-loop-i : goal.invariant-loop-i
invariant-loop-i g l = (first_of l.i (λ j. unless (ascends l.faces l.order j) WrongOrder) ≡ Ok tt) × Last l.faces l.order l.i l.last
