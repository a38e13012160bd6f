-- Laws of a written number, whatever it is. States, of `numeral_in k n`: `numeral_digits`: all its bytes are digits; `numeral_room`: it has at most k + 1 of them; `numeral_short`: and at
-- most j + 1 where n is below 10^(j + 1). Assumes nothing.
use Rattle.std.specs.Prelude.{◌≡◌, true, List, [], ◌∷◌, ◌++◌, ℕ, zero, suc, ◌+◌, ◌/◌, ◌%◌, ◌^◌, ◌≤◌, ◌<◌, ltb, length}
use Rattle.std.specs.List.{list_all}
use Rattle.std.proofs.Common.{ap, ◌∙◌, pow-suc, arith, length-append, le-leb, ltb-true, ltb-false}
use Rattle.std.proofs.lemmas.Bool.{cond_both}
use Rattle.std.proofs.lemmas.List.Folds.{list_all-append}
use Rattle.obj.specs.Text.{digit0}
use Rattle.obj.specs.Decimal.{is_digit}
use Rattle.obj.specs.Writer.{numeral_in}

-- what holds of the one digit of a number below 10 and of the digits of another
one_or_more : (k n : ℕ) (P : List ℕ → Type 0) → (n < 10 → P ((digit0 + n) ∷ [])) → (10 ≤ n → P (numeral_in k (n / 10) ++ (digit0 + n % 10) ∷ [])) → P (numeral_in (suc k) n)
one_or_more k n P one more =
    cond_both (ltb n 10) ((digit0 + n) ∷ []) (numeral_in k (n / 10) ++ (digit0 + n % 10) ∷ []) P (λ e. one (ltb-true n 10 e)) (λ e. more (ltb-false n 10 e))

-- ---- digits

digit_is : (d : ℕ) → d < 10 → is_digit (digit0 + d) ≡ true
digit_is d h = rw (le-leb digit0 (digit0 + d) (omega arith), le-leb (digit0 + d) (digit0 + 9) (omega arith))

pub numeral_digits : (k n : ℕ) → list_all is_digit (numeral_in k n) ≡ true
numeral_digits zero n = rw (digit_is (n % 10) (omega arith))
numeral_digits (suc k) n =
    one_or_more k n (λ s. list_all is_digit s ≡ true) (λ l. rw (digit_is n l))
    (λ l. rw (list_all-append is_digit (numeral_in k (n / 10)) ((digit0 + n % 10) ∷ []), numeral_digits k (n / 10), digit_is (n % 10) (omega arith)))

-- ---- how many

-- one more than those of n / 10, where n has more than one
longer : (k n m : ℕ) → 1 ≤ m → (10 ≤ n → length (numeral_in k (n / 10)) + 1 ≤ m) → length (numeral_in (suc k) n) ≤ m
longer k n m one h = one_or_more k n (λ s. length s ≤ m) (λ l. one) (λ l. omega (arith, length-append (numeral_in k (n / 10)) ((digit0 + n % 10) ∷ []), h l))

pub numeral_room : (k n : ℕ) → length (numeral_in k n) ≤ k + 1
numeral_room zero n = omega arith
numeral_room (suc k) n = longer k n (suc k + 1) (omega arith) (λ l. omega (arith, numeral_room k (n / 10)))

pub numeral_short : (k j n : ℕ) → n < 10 ^ (j + 1) → length (numeral_in k n) ≤ j + 1
numeral_short zero j n h = omega arith
numeral_short (suc k) zero n h = longer k n 1 (omega arith) (λ l. absurd (omega arith))
numeral_short (suc k) (suc j) n h =
    let z : suc j + 1 ≡ suc (j + 1) = omega arith in
    let power = ap (λ (i : ℕ). 10 ^ i) z ∙ pow-suc 10 (j + 1) in
    longer k n (suc j + 1) (omega arith) (λ l. omega (arith, numeral_short k j (n / 10) (omega arith)))
