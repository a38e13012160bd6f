-- Numerals and digits. States: `numeral_reads`: the numeral of n is one or more digits, at most ten, and means n; `reads_index`: a numeral of a number above 0 is an index; `digits_lack`: digits
-- hold no byte below the digit 0, as a space, a point, a minus and a newline are; `digits_all`: all their bytes are digits of theirs; `all_of_digits`. Assumes nothing.
use Rattle.std.specs.Prelude.{◌≡◌, refl, Bool, true, false, not, cond, List, [], ◌∷◌, ◌++◌, ℕ, zero, suc, ◌+◌, ◌-◌, ◌*◌, ◌/◌, ◌%◌, ◌^◌, ◌≤◌, ◌<◌, eqb, leb, ltb, length}
use Rattle.std.proofs.Common.{sym, ap, ◌∙◌, subst, div-lt_iff_lt-mul, pow-suc, zero-lt-suc, arith, length-append, le-leb, leb-true, ltb-true, ltb-false, ne_eqb, eqb-true}
use Rattle.lists.proofs.Numbers.{both, true≢false}
use Rattle.obj.specs.Text.{digit0}
use Rattle.std.specs.List.{fold, list_all}
use Rattle.std.proofs.lemmas.List.Folds.{list_all-append}
use Rattle.std.proofs.lemmas.List.Sums.{fold-append}
use Rattle.obj.specs.Decimal.{is_digit, is_digits, is_zero_digit, is_index, digits_of, with_digit, whole_of}
use Rattle.obj.specs.Writer.{numeral_in, numeral}
use Rattle.obj.proofs.Pieces.{lacks}

-- ---- digits

digit : (d : ℕ) → d < 10 → is_digit (digit0 + d) ≡ true
digit d l = rw (le-leb digit0 (digit0 + d) (omega arith), le-leb (digit0 + d) (digit0 + 9) (omega arith))

digit_bounds : (c : ℕ) → is_digit c ≡ true → (digit0 ≤ c) × (c ≤ digit0 + 9)
digit_bounds c h =
    let w = both (leb digit0 c) (leb c (digit0 + 9)) h in
    (leb-true digit0 c w.0, leb-true c (digit0 + 9) w.1)

pub all_of_digits : (s : List ℕ) → is_digits s ≡ true → list_all is_digit s ≡ true
unfolding is_digits
all_of_digits [] h = refl
all_of_digits (c ∷ s) h = h

digits_append : (s t : List ℕ) → is_digits s ≡ true → list_all is_digit t ≡ true → is_digits (s ++ t) ≡ true
unfolding is_digits
digits_append [] t h k = absurd (true≢false (sym h))
digits_append (c ∷ s) t h k = rw (list_all-append is_digit (c ∷ s) t, h, k)

pub digits_lack : (b : ℕ) → b < digit0 → (s : List ℕ) → list_all is_digit s ≡ true → lacks b s ≡ true
digits_lack b l [] h = refl
digits_lack b l (c ∷ s) h =
    let w = both (is_digit c) (list_all is_digit s) h in
    let d = digit_bounds c w.0 in
    rw (ne_eqb c b (λ e. omega (arith, d.0)), digits_lack b l s w.1)

pub digits_all : (s : List ℕ) → list_all is_digit s ≡ true → digits_of s ≡ s
unfolding digits_of
digits_all [] h = refl
digits_all (c ∷ s) h =
    let w = both (is_digit c) (list_all is_digit s) h in
    rw (w.0, digits_all s w.1)

zeros_mean : (s : List ℕ) → list_all is_zero_digit s ≡ true → fold with_digit 0 s ≡ 0
zeros_mean [] h = refl
zeros_mean (c ∷ s) h =
    let w = both (eqb c digit0) (list_all is_zero_digit s) h in
    rw (eqb-true c digit0 w.0) (zeros_mean s w.1)

-- ---- the numeral of a number below 10^(k + 1)

-- n has one digit, or more
one_or_more : (n : ℕ) (P : List ℕ → Type 0) (a b : List ℕ) → (n < 10 → P a) → (10 ≤ n → P b) → P (cond (ltb n 10) a b)
one_or_more n P a b p q = go (ltb n 10) refl
  where
    go : (t : Bool) → ltb n 10 ≡ t → P (cond t a b)
    go true e = p (ltb-true n 10 e)
    go false e = q (ltb-false n 10 e)

last_digit : (n : ℕ) → list_all is_digit ((digit0 + n % 10) ∷ []) ≡ true
last_digit n = rw (digit (n % 10) (omega arith))

in_digits : (k n : ℕ) → is_digits (numeral_in k n) ≡ true
unfolding is_digits
in_digits zero n = last_digit n
in_digits (suc k) n =
    one_or_more n (λ s. is_digits s ≡ true) ((digit0 + n) ∷ []) (numeral_in k (n / 10) ++ (digit0 + n % 10) ∷ [])
    (λ l. rw (digit n l))
    (λ l. digits_append (numeral_in k (n / 10)) ((digit0 + n % 10) ∷ []) (in_digits k (n / 10)) (last_digit n))

in_length : (k n : ℕ) → length (numeral_in k n) ≤ k + 1
in_length zero n = omega arith
in_length (suc k) n =
    one_or_more n (λ s. length s ≤ suc k + 1) ((digit0 + n) ∷ []) (numeral_in k (n / 10) ++ (digit0 + n % 10) ∷ [])
    (λ l. omega arith)
    (λ l. omega (arith, length-append (numeral_in k (n / 10)) ((digit0 + n % 10) ∷ []), in_length k (n / 10)))

in_means : (k n : ℕ) → n < 10 ^ suc k → fold with_digit 0 (numeral_in k n) ≡ n
in_means zero n h = omega arith
in_means (suc k) n h =
    one_or_more n (λ s. fold with_digit 0 s ≡ n) ((digit0 + n) ∷ []) (numeral_in k (n / 10) ++ (digit0 + n % 10) ∷ [])
    (λ l. omega arith)
    (λ l. fold-append with_digit 0 (numeral_in k (n / 10)) ((digit0 + n % 10) ∷ [])
    ∙ ap (λ (m : ℕ). 10 * m + (digit0 + n % 10 - digit0)) (in_means k (n / 10) ((div-lt_iff_lt-mul (zero-lt-suc 9)).1 (subst (λ (m : ℕ). n < m) (pow-suc 10 (suc k)) h)))
    ∙ (let z : 10 * (n / 10) + (digit0 + n % 10 - digit0) ≡ n = omega arith in z))

-- ---- a numeral that is written

-- s is a numeral of n
pub record Reads (s : List ℕ) (n : ℕ) : Type 0 where
  pub digits : is_digits s ≡ true
  pub few : length s ≤ 10
  pub means : whole_of s ≡ n

pub numeral_reads : (n : ℕ) → n < 10 ^ 10 → Reads (numeral n) n
unfolding numeral whole_of
numeral_reads n h = record { digits = in_digits 9 n; few = in_length 9 n; means = in_means 9 n h }

pub reads_index : (s : List ℕ) (n : ℕ) → 0 < n → Reads s n → is_index s ≡ true
unfolding is_index whole_of
reads_index s n l r = rw r.digits (go (list_all is_zero_digit s) refl)
  where
    go : (t : Bool) → list_all is_zero_digit s ≡ t → not t ≡ true
    go true e = absurd (let z : n ≡ 0 = sym r.means ∙ zeros_mean s e in omega arith)
    go false e = refl
