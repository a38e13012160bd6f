-- The handle on the bytes `b` of a sheet: it stands at a row, gives that row's part of the sheet (`row_part` of the checker's definitions), and moves to the next. Definitions only;
-- `Laws` shows `RowAfterRow` of every list of bytes.
use Rattle.std.specs.Prelude.{◌≡◌, cond, List, [], ◌∷◌, ◌++◌, ℕ, zero, suc, ◌+◌, ◌-◌, ◌≤◌, ◌<◌, ltb, length, get_or}
use Rattle.std.specs.List.{concat}
use Rattle.std.specs.Prelude.{Ok, Err}
use Rattle.refusals.specs.Causes.{Cause}
use Rattle.sheet.specs.Checker.{stations_in, row_length, checker_cause, opening_cause, rows_part, row_part}

-- no rows, where a cause refuses
abbrev pub none_if_refused : Cause → ℕ → ℕ
none_if_refused (Ok _) n = n
none_if_refused (Err r) n = 0

module _ (b : List ℕ) where
  -- how many rows readers are handed: S as the trailer has it, and none where 16, 1 or 2 refuses
  unfoldable pub row_count : ℕ
  row_count = none_if_refused (opening_cause b) (stations_in b)

  -- the number after i; the one past the last row has none after it, and the handle stays there
  unfoldable pub next_row_of : ℕ → ℕ
  next_row_of i = cond (ltb i row_count) (i + 1) i

  -- where the handle stands after n moves from the first row
  unfoldable pub after_moves : ℕ → ℕ
  after_moves zero = 0
  after_moves (suc n) = next_row_of (after_moves n)

  -- the part that it gives there
  abbrev pub part_after : ℕ → List ℕ
  part_after n = row_part b (after_moves n)

  -- the first n parts that it gives, joined
  unfoldable pub joined_parts : ℕ → List ℕ
  joined_parts zero = []
  joined_parts (suc n) = joined_parts n ++ part_after n

  -- the parts of n rows from row i on, and of all rows from row i on
  unfoldable pub rows_left : ℕ → ℕ → List (List ℕ)
  rows_left zero i = []
  rows_left (suc n) i = row_part b i ∷ rows_left n (i + 1)

  abbrev pub rows_from : ℕ → List (List ℕ)
  rows_from i = rows_left (row_count - i) i

-- row after row from the first, the handle gives exactly as many parts as there are rows, each a whole row, and then only empty ones; joined they are the rows. The iterator over
-- the rows (`rows_from`) gives the same parts in the same order, and then ends
pub record RowAfterRow (b : List ℕ) : Type 0 where
  -- of a sheet that the checker accepts there are S
  pub accepted : checker_cause b ≡ Ok tt → row_count b ≡ stations_in b
  pub stands : (n : ℕ) → n ≤ row_count b → after_moves b n ≡ n
  pub stays : (n : ℕ) → row_count b ≤ n → after_moves b n ≡ row_count b
  pub full : (n : ℕ) → n < row_count b → length (part_after b n) ≡ row_length b
  pub empty : (n : ℕ) → row_count b ≤ n → part_after b n ≡ []
  pub joined : joined_parts b (row_count b) ≡ rows_part b
  -- by number it is the same part
  pub numbered : (n : ℕ) → part_after b n ≡ row_part b n
  pub listed : length (rows_from b 0) ≡ row_count b
  pub in_turn : (n : ℕ) → n < row_count b → get_or (rows_from b 0) n [] ≡ part_after b n
  pub together : concat (rows_from b 0) ≡ rows_part b
