-- One turn of a loop over the pairs of neighbours in a list, `windows(2)`. States: `pair_turn`: which pair it has, and what is left. Assumes nothing.
use mathlib.Core.Path.{◌≡◌, ap, ◌∙◌}
use mathlib.Core.List.{List}
use Prim.Native.Nat.{ℕ, ◌+◌, ◌-◌, ◌≤◌, ◌<◌}
use native.Mathlib.Omega.{arith}
use lib.ListN.{length, get_or, take, drop}
use denote.Ref.{Bor}
use Rattle.std.specs.Prelude.{Option, Some}
use Rattle.std.specs.Option.{MatchOption}
use Rattle.std.specs.Slice.Iter.{windows_rest, windows_size}
use Rattle.std.specs.declared.slice.Windows.{Windows}
use Rattle.std.proofs.lemmas.Iterator.{window_more}

-- w is the pair with which rest, the end of o, begins, and after is rest without its first entry
pub record PairTurn (o w rest after : List ℕ) : Type 0 where
  pub inside : length o - length rest + 1 < length o
  pub first : get_or w 0 0 ≡ get_or o (length o - length rest) 0
  pub second : get_or w 1 0 ≡ get_or o (length o - length rest + 1) 0
  pub shorter : length after + 1 ≡ length rest
  pub end : after ≡ drop (length o - length after) o

pub pair_turn : (o : List ℕ) (s t : Windows ℕ) (r : Option (Bor (List ℕ))) (w : Bor (List ℕ)) → r ≡ Some w
    → (windows_size t ≡ windows_size s)
    × MatchOption r ((length (windows_rest s) < windows_size s) × (t ≡ s)) (λ x. (windows_size s ≤ length (windows_rest s)) × (x.now ≡ take (windows_size s) (windows_rest s)) × (windows_rest t ≡ drop 1 (windows_rest s)) × (length x.now ≡ windows_size s))
    → windows_size s ≡ 2 → length (windows_rest s) ≤ length o → windows_rest s ≡ drop (length o - length (windows_rest s)) o → PairTurn o w.now (windows_rest s) (windows_rest t)
pair_turn o s t r w is step two short e =
    let h = window_more o s t r w is step (omega (arith, two)) short e in
    let i = length o - length (windows_rest s) in
    let here : i + 0 ≡ i = omega arith in
    record {
      inside = omega (arith, h.2, two, short);
      first = h.3 0 0 (omega (arith, two)) ∙ ap (λ (n : ℕ). get_or o n 0) here;
      second = h.3 1 0 (omega (arith, two));
      shorter = h.0;
      end = h.1;
    }
