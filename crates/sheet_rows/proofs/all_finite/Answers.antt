-- `sheet_rows::all_finite` meets its contract. Assumes nothing.
use Rattle.std.specs.Bool.{MatchBool}
use Rattle.std.specs.List.{AllWithin, HoldsAt}
use Rattle.std.proofs.lemmas.Iterator.{cases_from_all, YieldsList-from_slice}
use mathlib.Core.Path.{◌≡◌, refl}
use mathlib.Core.Bool.{Bool, true, false, ◌&&◌}
use mathlib.Core.List.{List, [], ◌∷◌}
use Prim.Native.Nat.{ℕ, zero, suc, ◌<◌}
use native.Mathlib.Omega.{arith}
use lib.Ieee.{Float, nan}
use lib.Ieee.Scale.{finite}
use lib.ListN.{length, get_or}
use borrow.Author.Rules.{rules}
use borrow.Author.Tests.{tests}
use Rattle.sheet_rows.specs.Row.{all_finite}
use Rattle.sheet_rows.proofs.all_finite.Goals as goal

each : (xs : List Float) → ((k : ℕ) → k < length xs → finite (get_or xs k nan) ≡ true) → true ≡ all_finite xs
each [] h = refl
each (x ∷ xs) h = rw (h 0 (omega arith)) (each xs (λ k l. h (suc k) (omega arith)))

and_false : (b : Bool) → false ≡ (b && false)
and_false true = refl
and_false false = refl

one : (xs : List Float) (k : ℕ) → k < length xs → finite (get_or xs k nan) ≡ false → false ≡ all_finite xs
one [] k l e = absurd (omega arith)
one (x ∷ xs) zero l e = rw e
one (x ∷ xs) (suc k) l e = rw (← one xs k (omega arith) e) (and_false (finite x))

decided : (xs : List Float) (r : Bool) → MatchBool r (AllWithin (λ x. finite x ≡ true) xs 0 (length xs)) ((k : ℕ) × (k < length xs) × HoldsAt (λ x. finite x ≡ false) xs k) → r ≡ all_finite xs
decided xs true h = each xs (λ k l. h k nan (omega arith) l)
decided xs false h = one xs h.0 h.1 (h.2 nan)

pub returns : goal.returns
returns c =
    decided c.args.numbers.now c.all.result
    (cases_from_all _ _ _ (λ x. finite x ≡ true) (λ x. finite x ≡ false) c.all.ensures.ran (YieldsList-from_slice c.args.numbers.now cc) (λ x q k. search (rules, tests)) (λ x q k. search (rules, tests)))
