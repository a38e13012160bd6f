-- `sheet_layout::put_zeros` meets its contract. Assumes nothing.
use mathlib.Core.Path.{◌≡◌, sym, ap, ◌∙◌}
use mathlib.Core.List.{List, ◌++◌}
use Prim.Native.Nat.{ℕ}
use native.Mathlib.Omega.{arith}
use borrow.Author.Rules.{rules}
use lib.ListN.{length, drop, replicate, length-replicate}
use lib.Seq.{length-take-le}
use Rattle.sheet_layout.proofs.Stores.{sets_front}
use Rattle.sheet_layout.proofs.put_zeros.Goals as goal

pub returns : goal.returns
returns c =
    let s = c.args.s.now in
    let n = c.args.n in
    let e : c.fill.new.self ≡ replicate n 0 = c.fill.ensures.after (λ y h. search rules) ∙ ap (λ (m : ℕ). replicate m 0) (length-take-le n s (omega arith)) in
    let l : length (replicate {A = ℕ} n 0) ≡ n = length-replicate n 0 in
    ap (λ (r : List ℕ). r ++ drop n s) e ∙ ap (λ (m : ℕ). replicate n 0 ++ drop m s) (sym l) ∙ sym (sets_front s (replicate n 0) (omega (arith, l)))
