-- `prism_pieces::affordable` meets its contract. Assumes nothing.
use mathlib.Core.Path.{sym}
use borrow.Author.Tests.{le-leb}
use Rattle.prism_pieces.proofs.Orders.{too_high}
use Rattle.prism_pieces.specs.Choice.{affordable}
use Rattle.prism_pieces.proofs.affordable.Goals as goal

pub returns : goal.returns
unfolding affordable
returns c = simp (le-leb _ _ c.if-l-gt-MAX_ORDER.false, le-leb _ _ c.if-m-gt-MAX_ORDER.false, le-leb _ _ c.if-n-gt-MAX_ORDER.false)

pub returns-then-l-gt-MAX_ORDER : goal.returns-then-l-gt-MAX_ORDER
returns-then-l-gt-MAX_ORDER c = sym (too_high c.args.l c.args.m c.args.n c.then-l-gt-MAX_ORDER.either)
