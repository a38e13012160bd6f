-- States `index_from_one`: a right index is at least 1, and its vertex number is below V exactly where it is at most V. Assumes nothing.
use Rattle.std.specs.Prelude.{◌≡◌, true, false, List, [], ◌∷◌, ◌↔◌, ℕ, ◌≤◌, ◌<◌, ◌+◌, ◌&&◌, not, leb}
use Rattle.std.specs.List.{fold, filter, list_all}
use Rattle.std.proofs.Common.{⊎_elim, le_refl, arith, leb-true}
use Rattle.std.proofs.lemmas.Bool.{true≢false, eqb-false, and_parts, and_cases, not-true}
use Rattle.obj.specs.Text.{digit0, is_filled}
use Rattle.obj.specs.Decimal.{is_digit, is_zero_digit, is_digits, is_index, digits_of, with_digit, whole_of, index_of}

grows : (n : ℕ) (s : List ℕ) → n ≤ fold with_digit n s
grows n [] = le_refl n
grows n (c ∷ s) = let h = grows (with_digit n c) s in omega arith

-- a digit other than 0 makes the number one at least
above_zero : (n : ℕ) (s : List ℕ) → list_all is_digit s ≡ true → list_all is_zero_digit s ≡ false → 0 < fold with_digit n (filter is_digit s)
above_zero n [] d z = absurd (true≢false z)
above_zero n (c ∷ s) d z =
    let e = and_parts (is_digit c) (list_all is_digit s) d in
    let low = leb-true digit0 c (and_parts (leb digit0 c) (leb c (digit0 + 9)) e.0).0 in
    let step = with_digit n c in
    rw e.0
    (⊎_elim (λ q. let g = grows step (filter is_digit s) in let ne = eqb-false c digit0 q in omega arith) (λ q. above_zero step s e.1 q)
    (and_cases (is_zero_digit c) (list_all is_zero_digit s) z))

pub index_from_one : (s : List ℕ) (n : ℕ) → is_index s ≡ true → (1 ≤ whole_of (digits_of s)) × ((index_of s < n) ↔ (whole_of (digits_of s) ≤ n))
unfolding is_index is_digits index_of whole_of digits_of
index_from_one s n e =
    let p = and_parts (is_filled s && list_all is_digit s) (not (list_all is_zero_digit s)) e in
    let h = above_zero 0 s (and_parts (is_filled s) (list_all is_digit s) p.0).1 (not-true (list_all is_zero_digit s) p.1) in
    (h, (λ l. omega arith, λ l. omega arith))
