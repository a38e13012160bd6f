-- `sheet_handle::row_after` meets its contract: each turn moves the handle once. Assumes nothing.
use Rattle.std.proofs.Common.{◌≡◌, ◌+◌, List, ℕ, refl, ap, ◌∙◌, add-one, Bor}
use Rattle.sheet_handle.specs.RowAfterRow.{next_row_of, after_moves}
use Rattle.sheet_handle.proofs.row_after.Goals as goal

pub loop-i-init : goal.loop-i-init
unfolding after_moves
loop-i-init c = (ap (λ (z : Bor (List ℕ)). z.now) c.new-h.ensures.0, c.new-h.ensures.1)

-- one move more
moved : (s t : List ℕ) (a i : ℕ) → t ≡ s → a ≡ after_moves s i → next_row_of t a ≡ after_moves s (i + 1)
unfolding after_moves
moved s t a i p q = rw (p, q, add-one) refl

pub loop-i-preserved : goal.loop-i-preserved
loop-i-preserved c =
    let s = c.args.sheet.now in
    let h = c.loop-i.h in (
      ap (λ (z : Bor (List ℕ)). z.now) c.next-h.ensures.0 ∙ c.loop-i.invariant.0,
      c.next-h.ensures.1 ∙ moved s h.sheet.now h.at c.loop-i._i c.loop-i.invariant.0 c.loop-i.invariant.1,
    )
