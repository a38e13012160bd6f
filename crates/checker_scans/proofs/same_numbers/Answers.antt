-- `checker_scans::same_numbers` meets its contract: the numbers so far have the bits of those given. Assumes nothing.
use mathlib.Core.Path.{sym, ◌∙◌}
use native.Mathlib.Omega.{arith}
use Rattle.checker_scans.proofs.Compare.{same, other}
use Rattle.checker_scans.proofs.same_numbers.Goals as goal

pub returns-then-u64_at-to_bits : goal.returns-then-u64_at-to_bits
returns-then-u64_at-to_bits c = sym (other c.args.sheet.now c.args.xs.now c.args.at c.loop-i.i (omega arith) (λ e. c.if-u64_at-to_bits.true (c.u64_at.ensures ∙ e ∙ sym c.to_bits.ensures)))

pub returns : goal.returns
returns c = sym (same c.args.sheet.now c.args.xs.now c.args.at (λ i l. c.loop-i.invariant i (omega arith)))
