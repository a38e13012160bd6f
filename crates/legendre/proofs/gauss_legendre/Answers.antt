-- `legendre::gauss_legendre` meets its contract. Assumes nothing.
use mathlib.Core.Path.{sym}
use mathlib.Core.Logic.{inl, inr}
use native.Mathlib.Omega.{arith}
use Rattle.legendre.specs.RuleEntries.{order-accepted, order-refused}
use Rattle.legendre.proofs.gauss_legendre.Goals as goal

pub returns-then-order-lt1 : goal.returns-then-order-lt1
returns-then-order-lt1 c = sym (order-refused _ (inl (omega arith)))

pub returns-then-order-gt-MAX_ORDER : goal.returns-then-order-gt-MAX_ORDER
returns-then-order-gt-MAX_ORDER c = sym (order-refused _ (inr (omega arith)))

pub returns : goal.returns
returns c = rw c.of_order.ensures (sym (order-accepted c.args.order (omega arith) (omega arith)))
