-- Laws of pieces, lines and fields. States:
-- `split_piece`, `split_last`: a piece up to the next byte b, and the last one;
-- `fields_none`, `fields_skip`, `fields_one`, `fields_last`: the fields of a line, one after the other;
-- `lines_written`: the lines of what was written line by line. Assumes nothing.
use mathlib.Core.Path.{◌≡◌, refl, sym, ap, ◌∙◌}
use mathlib.Core.Bool.{Bool, true, false, not}
use mathlib.Core.List.{List, [], ◌∷◌, ◌++◌, append_assoc}
use Prim.Native.Nat.{ℕ, zero, suc, ◌<◌}
use native.Mathlib.Omega.{arith}
use lib.Dec.{eqb}
use borrow.Author.Tests.{eq-eqb}
use Rattle.lists.proofs.Numbers.{both}
use Rattle.std.specs.List.{list_all, filter}
use Rattle.obj.specs.Text.{newline, space, split, is_filled, lines, fields}
use Rattle.obj.specs.Writer.{written}

-- the byte b does not stand in s
abbrev pub lacks : ℕ → List ℕ → Bool
lacks b s = list_all (λ x. not (eqb x b)) s

other : (x b : ℕ) → not (eqb x b) ≡ true → eqb x b ≡ false
other x b h = go (eqb x b) h
  where
    go : (t : Bool) → not t ≡ true → t ≡ false
    go true e = sym e
    go false e = refl

-- ---- pieces

pub split_piece : (b : ℕ) (p s : List ℕ) → lacks b p ≡ true → split b (p ++ b ∷ s) ≡ p ∷ split b s
unfolding split
split_piece b [] s h = rw (eq-eqb b b refl)
split_piece b (x ∷ p) s h =
    let w = both (not (eqb x b)) (lacks b p) h in
    rw (other x b w.0, split_piece b p s w.1)

pub split_last : (b : ℕ) (p : List ℕ) → lacks b p ≡ true → split b p ≡ p ∷ []
unfolding split
split_last b [] h = refl
split_last b (x ∷ p) h =
    let w = both (not (eqb x b)) (lacks b p) h in
    rw (other x b w.0, split_last b p w.1)

-- ---- fields

pub fields_none : fields [] ≡ []
unfolding fields split
fields_none = refl

pub fields_skip : (s : List ℕ) → fields (space ∷ s) ≡ fields s
unfolding fields split
fields_skip s = refl

pub fields_one : (x : ℕ) (p s : List ℕ) → lacks space (x ∷ p) ≡ true → fields ((x ∷ p) ++ space ∷ s) ≡ (x ∷ p) ∷ fields s
unfolding fields
fields_one x p s h = ap (filter is_filled) (split_piece space (x ∷ p) s h)

pub fields_last : (x : ℕ) (p : List ℕ) → lacks space (x ∷ p) ≡ true → fields (x ∷ p) ≡ (x ∷ p) ∷ []
unfolding fields
fields_last x p h = ap (filter is_filled) (split_last space (x ∷ p) h)

-- ---- lines

-- line 0, line 1, .., line (n - 1)
abbrev pub listed : ℕ → (ℕ → List ℕ) → List (List ℕ)
listed zero line = []
listed (suc n) line = listed n line ++ line n ∷ []

pub lines_written : (n : ℕ) (line : ℕ → List ℕ) (rest : List ℕ) → ((k : ℕ) → k < n → lacks newline (line k) ≡ true)
    → lines (written n line ++ rest) ≡ listed n line ++ lines rest
unfolding written
lines_written zero line rest h = refl
lines_written (suc n) line rest h =
    ap lines (append_assoc (written n line) (line n ++ newline ∷ []) rest ∙ ap (λ (s : List ℕ). written n line ++ s) (append_assoc (line n) (newline ∷ []) rest))
    ∙ lines_written n line (line n ++ newline ∷ rest) (λ k l. h k (omega arith))
    ∙ ap (λ (ls : List (List ℕ)). listed n line ++ ls) (split_piece newline (line n) rest (h n (omega arith)))
    ∙ sym (append_assoc (listed n line) (line n ∷ []) (lines rest))
