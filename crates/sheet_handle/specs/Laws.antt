-- The handle, moved row after row, gives the rows of the sheet, whatever the bytes: `row_after-row`, at the end. Assumes nothing.
use Rattle.std.specs.Prelude.{◌≡◌, List, [], ◌∷◌, ◌++◌, length, get_or, take, drop}
use Rattle.std.specs.List.{concat}
use Rattle.std.proofs.Math.Path.{refl, ap}
use Rattle.std.proofs.Common.{sym, ◌∙◌, length-drop, length-take-le}
use Rattle.std.proofs.Math.Logic.{⊎_elim}
use Prim.Native.Nat.{ℕ, zero, suc, ◌+◌, ◌-◌, ◌*◌, ◌≤◌, ◌<◌}
use native.Mathlib.Omega.{arith}
use Rattle.std.proofs.Math.Numerals.{add-one}
use Rattle.std.proofs.Math.Seq.{take-add, drop-drop}
use Rattle.std.proofs.lemmas.List.{append-nil, append_assoc}
use borrow.Author.Tests.{lt-ltb, le-ltb}
use Rattle.refusals.specs.declared.Refusal.{Refusal}
use Rattle.std.specs.Prelude.{Ok, Err}
use Rattle.refusals.specs.Causes.{Cause}
use Rattle.refusals.proofs.Causes.{both}
use Rattle.lists.proofs.Numbers.{below?}
use Rattle.sheet.specs.Writer.{malformed, too_many}
use Rattle.sheet.specs.Checker.{stations_in, rows_start, row_start, row_length, parse, wrong_length, checker_cause, opening_cause, rows_part, row_part}
use Rattle.sheet_readers.proofs.Opening.{opened, no_rows, no_row, past_rows}
use Rattle.sheet_handle.specs.RowAfterRow.{row_count, next_row_of, after_moves, part_after, joined_parts, rows_left, rows_from, RowAfterRow}

module _ (b : List ℕ) where
  -- ---- where the handle stands

  pub next-below : (i : ℕ) → i < row_count b → next_row_of b i ≡ i + 1
  unfolding next_row_of
  next-below i h = rw (lt-ltb i (row_count b) h)

  pub next_past : (i : ℕ) → row_count b ≤ i → next_row_of b i ≡ i
  unfolding next_row_of
  next_past i h = rw (le-ltb i (row_count b) h)

  pub no_move : after_moves b 0 ≡ 0
  unfolding after_moves
  no_move = refl

  pub after_move : (n : ℕ) → after_moves b (n + 1) ≡ next_row_of b (after_moves b n)
  unfolding after_moves
  after_move n = ap (after_moves b) (add-one n)

  stands : (n : ℕ) → n ≤ row_count b → after_moves b n ≡ n
  unfolding after_moves
  stands zero h = refl
  stands (suc n) h = ap (next_row_of b) (stands n (omega arith)) ∙ next-below n (omega arith) ∙ add-one n

  stays : (n : ℕ) → row_count b ≤ n → after_moves b n ≡ row_count b
  unfolding after_moves
  stays zero h = omega arith
  stays (suc n) h =
      ⊎_elim (λ l. let e : suc n ≡ row_count b = omega arith in stands (suc n) (omega arith) ∙ e)
      (λ g. ap (next_row_of b) (stays n g) ∙ next_past (row_count b) (omega arith)) (below? n (row_count b))

  -- ---- the parts, where 16, 1 and 2 let the bytes through

  module _ (e : opening_cause b ≡ Ok tt) where
    pub counted : row_count b ≡ stations_in b
    unfolding row_count
    counted = rw e

    row_is : (i : ℕ) → i < stations_in b → row_part b i ≡ take (row_length b) (drop (row_start b i) b)
    unfolding row_part
    row_is i h = rw (e, lt-ltb i (stations_in b) h)

    full-row : (i : ℕ) → i < stations_in b → length (row_part b i) ≡ row_length b
    full-row i h =
        let o = opened b e in
        rw (row_is i h) (length-take-le (row_length b) (drop (row_start b i) b) (simp length-drop (omega (arith, o.whole))))

    joined_is : (n : ℕ) → n ≤ stations_in b → joined_parts b n ≡ take (row_length b * n) (drop (rows_start b) b)
    unfolding joined_parts
    joined_is zero h = refl
    joined_is (suc n) h =
        let m : row_length b * suc n ≡ row_length b * n + row_length b = omega arith in
        let s : after_moves b n ≡ n = stands n (omega (arith, counted)) in
        rw (m, take-add (row_length b * n), drop-drop, s, row_is n (omega arith), joined_is n (omega arith))

    all-joined : joined_parts b (row_count b) ≡ rows_part b
    unfolding rows_part
    all-joined = ap (joined_parts b) counted ∙ rw e (joined_is (stations_in b) (omega arith))

  accepted : checker_cause b ≡ Ok tt → row_count b ≡ stations_in b
  unfolding checker_cause opening_cause
  accepted e =
      let l = both (wrong_length b) _ e in
      let m = both (malformed (parse b)) _ l.1 in
      let t = both (too_many (parse b)) _ m.1 in
      counted (rw (l.0, m.0) t.0)

  -- ---- and where one of them refuses

  pub no_count : (r : Refusal) → opening_cause b ≡ Err r → row_count b ≡ 0
  unfolding row_count
  no_count r e = rw e

  nothing_joined : (r : Refusal) → opening_cause b ≡ Err r → joined_parts b (row_count b) ≡ rows_part b
  unfolding joined_parts
  nothing_joined r e = rw (no_count r e) (no_rows b r e)

  -- ---- in both cases

  full : (c : Cause) → opening_cause b ≡ c → (n : ℕ) → n < row_count b → length (row_part b n) ≡ row_length b
  full (Ok _) e n h = full-row e n (omega (arith, counted e))
  full (Err r) e n h = absurd (omega (arith, no_count r e))

  past : (c : Cause) → opening_cause b ≡ c → (n : ℕ) → row_count b ≤ n → row_part b n ≡ []
  past (Ok _) e n h = sym (past_rows b n e (omega (arith, counted e)))
  past (Err r) e n h = sym (no_row b n r e)

  joined : (c : Cause) → opening_cause b ≡ c → joined_parts b (row_count b) ≡ rows_part b
  joined (Ok _) e = all-joined e
  joined (Err r) e = nothing_joined r e

  pub past_last : (n : ℕ) → row_count b ≤ n → row_part b n ≡ []
  past_last n h = past (opening_cause b) refl n h

  empty : (n : ℕ) → row_count b ≤ n → part_after b n ≡ []
  empty n h = ap (row_part b) (stays n h) ∙ past_last (row_count b) (omega arith)

  pub numbered : (n : ℕ) → part_after b n ≡ row_part b n
  numbered n = ⊎_elim (λ l. ap (row_part b) (stands n (omega arith))) (λ g. empty n g ∙ sym (past_last n g)) (below? n (row_count b))

  -- ---- the rows that are left

  pub none_left : (i : ℕ) → row_count b ≤ i → rows_from b i ≡ []
  unfolding rows_left
  none_left i h = let z : row_count b - i ≡ 0 = omega arith in rw z

  pub one-left : (i : ℕ) → i < row_count b → rows_from b i ≡ row_part b i ∷ rows_from b (i + 1)
  unfolding rows_left
  one-left i h = let z : row_count b - i ≡ suc (row_count b - (i + 1)) = omega arith in rw z

  listed : (n i : ℕ) → length (rows_left b n i) ≡ n
  unfolding rows_left
  listed zero i = refl
  listed (suc n) i = ap suc (listed n (i + 1))

  left_at : (n i k : ℕ) → k < n → get_or (rows_left b n i) k [] ≡ row_part b (i + k)
  unfolding rows_left
  left_at zero i k h = absurd (omega arith)
  left_at (suc n) i zero h = let e : i ≡ i + 0 = omega arith in ap (row_part b) e
  left_at (suc n) i (suc k) h = let e : i + 1 + k ≡ i + suc k = omega arith in left_at n (i + 1) k (omega arith) ∙ ap (row_part b) e

  -- the parts of the moves so far, and then the rows that are left, are those of all moves
  left_joined : (n i : ℕ) → joined_parts b i ++ concat (rows_left b n i) ≡ joined_parts b (i + n)
  unfolding rows_left joined_parts
  left_joined zero i = let e : i ≡ i + 0 = omega arith in append-nil (joined_parts b i) ∙ ap (joined_parts b) e
  left_joined (suc n) i =
      let e : suc i + n ≡ i + suc n = omega arith in
      sym (append_assoc (joined_parts b i) (row_part b i) (concat (rows_left b n (i + 1))))
      ∙ ap (λ (xs : List ℕ). joined_parts b i ++ xs ++ concat (rows_left b n (i + 1))) (sym (numbered i))
      ∙ ap (λ (k : ℕ). joined_parts b (suc i) ++ concat (rows_left b n k)) (add-one i)
      ∙ left_joined n (suc i)
      ∙ ap (joined_parts b) e

  in_turn : (n : ℕ) → n < row_count b → get_or (rows_from b 0) n [] ≡ part_after b n
  in_turn n h = let e : 0 + n ≡ n = omega arith in left_at (row_count b - 0) 0 n (omega arith) ∙ ap (row_part b) e ∙ sym (numbered n)

  together : concat (rows_from b 0) ≡ rows_part b
  unfolding joined_parts
  together = let e : 0 + (row_count b - 0) ≡ row_count b = omega arith in left_joined (row_count b - 0) 0 ∙ ap (joined_parts b) e ∙ joined (opening_cause b) refl

pub row_after-row : (b : List ℕ) → RowAfterRow b
row_after-row b = record {
  accepted = accepted b;
  stands = stands b;
  stays = stays b;
  full = λ n h. rw (stands b n (omega arith)) (full b (opening_cause b) refl n h);
  empty = empty b;
  joined = joined b (opening_cause b) refl;
  numbered = numbered b;
  listed = let e : row_count b - 0 ≡ row_count b = omega arith in listed b (row_count b - 0) 0 ∙ e;
  in_turn = in_turn b;
  together = together b;
}
