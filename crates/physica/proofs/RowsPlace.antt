-- The rows end where the trailer begins. Assumes nothing.
use mathlib.Core.Path.{◌≡◌, refl, sym, ap, ◌∙◌}
use mathlib.Core.List.{List}
use Prim.Native.Nat.{ℕ, ◌+◌, ◌-◌, ◌≤◌}
use native.Mathlib.Omega.{arith}
use lib.ListN.{length, take, drop, length-drop}
use lib.Seq.{length-take-le}
use Rattle.std.specs.Prelude.{Ok, Err}
use Rattle.refusals.specs.Causes.{Cause}
use Rattle.sheet.specs.Bytes.{trailer_length}
use Rattle.sheet.specs.Checker.{rows_start, opening_cause, rows_part}
use Rattle.sheet_readers.proofs.Opening.{opened, no_rows, rows_from}

module _ (b : List ℕ) where
  -- the bytes of length n before the trailer
  abbrev ending : ℕ → List ℕ
  ending n = take n (drop (length b - (trailer_length + n)) b)

  by-cause : (c : Cause) → opening_cause b ≡ c → ending (length (rows_part b)) ≡ rows_part b
  by-cause (Err r) e = ap (λ (p : List ℕ). ending (length p)) (sym (no_rows b r e)) ∙ no_rows b r e
  by-cause (Ok _) e =
      let o = opened b e in
      let s = rows_start b in
      let t = length b - trailer_length in
      let within : t - s ≤ length b - s = omega arith in
      let part : take (t - s) (drop s b) ≡ rows_part b = rows_from b e s t refl refl in
      let size : length (rows_part b) ≡ t - s = sym (ap length part) ∙ length-take-le (t - s) (drop s b) (rw length-drop within) in
      let start : length b - (trailer_length + (t - s)) ≡ s = omega (arith, o.whole, o.trailer) in
      ap ending size ∙ ap (λ (k : ℕ). take (t - s) (drop k b)) start ∙ part

  pub rows-place : ending (length (rows_part b)) ≡ rows_part b
  rows-place = by-cause (opening_cause b) refl
