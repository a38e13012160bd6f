-- `checker_scans::out_of_limits_at` meets its contract: the chunks of eight bytes are the doubles. Assumes nothing.
use Rattle.std.specs.Bool.{MatchBool}
use Rattle.std.specs.List.{AllWithin, HoldsAt}
use Rattle.std.proofs.lemmas.Iterator.{cases_from_all, YieldsList-from_slice}
use mathlib.Core.Path.{◌≡◌, sym, ap, ◌∙◌}
use mathlib.Core.Bool.{Bool, true, false}
use mathlib.Core.List.{List}
use Prim.Native.Nat.{ℕ, ◌+◌, ◌*◌, ◌-◌, ◌<◌}
use native.Mathlib.Omega.{arith}
use lib.ListN.{length}
use borrow.Author.Rules.{rules}
use borrow.Author.Tests.{tests}
use Rattle.refusals.specs.declared.Refusal.TheVariants.{OutOfLimits}
use Rattle.refusals.specs.Causes.{unless}
use Rattle.doubles.specs.Magnitude.{within_limits}
use Rattle.mesh.specs.Check.{out_of_limits}
use Rattle.sheet_layout.specs.LittleEndian.{unpack, doubles}
use Rattle.checker_scans.proofs.Chunks.{IsChunks, chunks, double_in, all_within, one_outside}
use Rattle.checker_scans.proofs.out_of_limits_at.Goals as goal

decided : (s : List ℕ) (at n : ℕ) (xs : List (List ℕ)) (r : Bool) → IsChunks s at n xs
    → MatchBool r (AllWithin (λ b. within_limits (double_in b) ≡ true) xs 0 (length xs)) ((k : ℕ) × (k < length xs) × HoldsAt (λ b. within_limits (double_in b) ≡ false) xs k)
    → unless r OutOfLimits ≡ out_of_limits (doubles (unpack 8 n s at))
decided s at n xs true e h = all_within s at n xs e (λ k d l. h k d (omega arith) l)
decided s at n xs false e h = one_outside s at n xs e h.0 h.1 h.2

pub returns-then-all : goal.returns-then-all
returns-then-all c =
    let a = c.args in
    let xs = c.as_chunks.result.0.now in
    ap (λ (b : Bool). unless b OutOfLimits) (sym c.if-all.true)
    ∙ decided a.sheet.now a.at a.n xs c.all.result
    (chunks a.sheet.now a.at a.n xs (a.at + 8 * a.n - a.at) c.requires (omega arith) c.as_chunks.ensures.front_len c.as_chunks.ensures.front)
    (cases_from_all _ _ _ (λ b. within_limits (double_in b) ≡ true) (λ b. within_limits (double_in b) ≡ false) c.all.ensures.ran (YieldsList-from_slice xs c.iter.ensures.rest) (λ x q k. search (rules, tests)) (λ x q k. search (rules, tests)))

pub returns : goal.returns
returns c =
    let a = c.args in
    let xs = c.as_chunks.result.0.now in
    ap (λ (b : Bool). unless b OutOfLimits) (sym c.if-all.false)
    ∙ decided a.sheet.now a.at a.n xs c.all.result
    (chunks a.sheet.now a.at a.n xs (a.at + 8 * a.n - a.at) c.requires (omega arith) c.as_chunks.ensures.front_len c.as_chunks.ensures.front)
    (cases_from_all _ _ _ (λ b. within_limits (double_in b) ≡ true) (λ b. within_limits (double_in b) ≡ false) c.all.ensures.ran (YieldsList-from_slice xs c.iter.ensures.rest) (λ x q k. search (rules, tests)) (λ x q k. search (rules, tests)))
