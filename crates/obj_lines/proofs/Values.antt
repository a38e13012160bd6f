-- The whole number of digits as 64 bits keep it, and the value of a number. States:
-- `kept`: digits behind numbers that 64 bits do not tell apart; `all_kept`: digits alone are all that there are; `small`: 15 digits are below 10^15;
-- `whole_is`: so their whole number is kept; `value_is`, `index_value`: and the value is that of what is kept.
-- Assumes nothing.
use Rattle.std.specs.Prelude.{◌≡◌, refl, Bool, true, false, not, ◌&&◌, cond, List, [], ◌∷◌, ℕ, ◌+◌, ◌-◌, ◌*◌, ◌%◌, ◌^◌, ◌≤◌, ◌<◌, suc, eqb, leb, length, get_or, take, drop}
use Rattle.std.proofs.Common.{sym, ap, subst, ◌∙◌, arith, leb-true, eqb-true, mul_assoc}
use Rattle.std.proofs.Math.Nat.{mul-le-mul_right, pow-le-pow_right, pow-succ', mod-eq_of_lt}
use Rattle.std.specs.List.{fold, list_all, filter}
use Rattle.std.proofs.lemmas.Bool.{not-true, eqb-false}
use Rattle.std.proofs.lemmas.List.{drop_more, drop_all, take_all}
use Rattle.std.proofs.lemmas.List.Folds.{fold_along, list_all_at}
use Rattle.lists.proofs.Numbers.{both}
use Rattle.obj.specs.Text.{digit0, is_filled}
use Rattle.obj.specs.Decimal.{is_digit, is_digits, is_zero_digit, is_index, index_of, digits_of, with_digit, whole_of, decimal, negated_if, value_of, max_digits}
use Rattle.obj_lines.specs.declared.decimal.Decimal.{Decimal}
use Rattle.obj_lines.specs.Parts.{KeepsDigits, IsNumber, IsIndex}

pub kept : (a b : ℕ) (s : List ℕ) → a % 2 ^ 64 ≡ b % 2 ^ 64 → fold with_digit a s % 2 ^ 64 ≡ fold with_digit b s % 2 ^ 64
kept a b s e = fold_along with_digit with_digit (λ a b. a % 2 ^ 64 ≡ b % 2 ^ 64) (λ a b c h. omega arith) a b s e

digit_high : (c : ℕ) → is_digit c ≡ true → c - digit0 < 10
digit_high c h = let w = both (leb digit0 c) (leb c (digit0 + 9)) h in omega (arith, leb-true c (digit0 + 9) w.1)

digit_low : (c : ℕ) → is_digit c ≡ true → digit0 ≤ c
digit_low c h = leb-true digit0 c (both (leb digit0 c) (leb c (digit0 + 9)) h).0

pub below : (a : ℕ) (s : List ℕ) → list_all is_digit s ≡ true → fold with_digit a s < (a + 1) * 10 ^ length s
below a [] h = omega arith
below a (c ∷ s) h =
    let w = both (is_digit c) (list_all is_digit s) h in
    let power = 10 ^ length s in
    let one : with_digit a c + 1 ≤ (a + 1) * 10 = omega (arith, digit_high c w.0) in
    let all : (with_digit a c + 1) * power ≤ (a + 1) * 10 * power = mul-le-mul_right power one in
    let same : (a + 1) * 10 * power ≡ (a + 1) * 10 ^ suc (length s) = mul_assoc (a + 1) 10 power ∙ ap (λ (n : ℕ). (a + 1) * n) (sym (pow-succ' 10 (length s))) in
    omega (arith, below (with_digit a c) s w.1, all, same)

-- ---- digits one by one

pub no_digits : (s : List ℕ) → length s ≡ 0 → is_digits s ≡ false
unfolding is_digits
no_digits [] h = refl
no_digits (c ∷ s) h = absurd (omega arith)

pub and_false : (b : Bool) → (b && false) ≡ false
and_false true = refl
and_false false = refl

pub stops : (s : List ℕ) (i : ℕ) → i < length s → is_digit (get_or s i 0) ≡ false → is_digits s ≡ false
unfolding is_digits
stops s i l e = rw (list_all_at is_digit s i 0 l e) (and_false (is_filled s))

-- one turn of the loop, from w to v
pub turn : (s : List ℕ) (i w v all : ℕ) → i < length s → v ≡ (w * 10 % 2 ^ 64 + (get_or s i 0 - digit0)) % 2 ^ 64
    → fold with_digit w (drop i s) % 2 ^ 64 ≡ all → fold with_digit v (drop (i + 1) s) % 2 ^ 64 ≡ all
turn s i w v all l e h =
    kept v (with_digit w (get_or s i 0)) (drop (i + 1) s) (omega arith)
    ∙ ap (λ (t : List ℕ). fold with_digit w t % 2 ^ 64) (sym (drop_more s i 0 l))
    ∙ h

pub ended : (s : List ℕ) (i w all : ℕ) → length s ≤ i → w < 2 ^ 64 → fold with_digit w (drop i s) % 2 ^ 64 ≡ all → w ≡ all
ended s i w all l f h = sym (mod-eq_of_lt f) ∙ ap (λ (t : List ℕ). fold with_digit w t % 2 ^ 64) (sym (drop_all i s l)) ∙ h

pub are_digits : (s : List ℕ) (i : ℕ) → length s ≤ i → eqb (length s) 0 ≡ false → list_all is_digit (take i s) ≡ true → is_digits s ≡ true
unfolding is_digits
are_digits [] i l f h = cc
are_digits (c ∷ s) i l f h = ap (list_all is_digit) (sym (take_all i (c ∷ s) l)) ∙ h

-- ---- all digits

-- digits alone are all that there are
pub all_kept : (s : List ℕ) → list_all is_digit s ≡ true → digits_of s ≡ s
unfolding digits_of
all_kept [] h = refl
all_kept (c ∷ s) h = let w = both (is_digit c) (list_all is_digit s) h in rw w.0 (ap (λ (t : List ℕ). c ∷ t) (all_kept s w.1))

-- 15 digits
pub small : (s : List ℕ) (n : ℕ) → list_all is_digit s ≡ true → length s ≡ n → n ≤ 15 → fold with_digit 0 s < 10 ^ 15
small s n h e l =
    let up : 10 ^ length s ≤ 10 ^ 15 = pow-le-pow_right (omega arith) {i = length s} {j = 15} (omega arith) in
    omega (arith, below 0 s h, up)

-- ---- the value of a number

pub digits_pass : (s : List ℕ) → list_all is_digit (digits_of s) ≡ true
unfolding digits_of
digits_pass [] = refl
digits_pass (c ∷ s) = go (is_digit c) refl (digits_pass s)
  where
    go : (b : Bool) → is_digit c ≡ b → list_all is_digit (filter is_digit s) ≡ true → list_all is_digit (cond b (c ∷ filter is_digit s) (filter is_digit s)) ≡ true
    go true e h = rw (e, h)
    go false e h = h

pub whole_is : (s : List ℕ) (n : Decimal) → KeepsDigits s n → n.digits ≤ max_digits → n.whole ≡ whole_of (digits_of s)
unfolding whole_of
whole_is s n c l =
    let h = small (digits_of s) n.digits (digits_pass s) (sym c.digits) l in
    c.whole ∙ mod-eq_of_lt (omega (arith, h))

pub value_is : (s : List ℕ) (n : Decimal) → IsNumber s n → n.digits ≤ max_digits → value_of s ≡ negated_if n.negative (decimal n.whole n.places)
unfolding value_of
value_is s n h l = rw (whole_is s n h.counts l, h.negative, h.places)

-- ---- the number of an index

grows : (a : ℕ) (s : List ℕ) → a ≤ fold with_digit a s
grows a [] = omega arith
grows a (c ∷ s) = omega (arith, grows (with_digit a c) s)

-- digits that are not all 0
positive_more : (c : ℕ) (s : List ℕ) (z : Bool) → is_digit c ≡ true → is_zero_digit c ≡ z → (z && list_all is_zero_digit s) ≡ false
    → (list_all is_zero_digit s ≡ false → 0 < fold with_digit 0 s) → 0 < fold with_digit 0 (c ∷ s)
positive_more c s true h e k more =
    let q : 0 ≡ 10 * 0 + (c - digit0) = omega (arith, eqb-true c digit0 e) in
    subst (λ (d : ℕ). 0 < fold with_digit d s) q (more k)
positive_more c s false h e k more = omega (arith, grows (with_digit 0 c) s, digit_low c h, eqb-false c digit0 e)

positive : (s : List ℕ) → list_all is_digit s ≡ true → list_all is_zero_digit s ≡ false → 0 < fold with_digit 0 s
positive [] h z = cc
positive (c ∷ s) h z =
    let w = both (is_digit c) (list_all is_digit s) h in
    positive_more c s (is_zero_digit c) w.0 refl z (positive s w.1)

pub index_value : (s : List ℕ) (n : Decimal) → IsIndex s n → n.digits ≤ max_digits → (1 ≤ n.whole) × (n.whole - 1 ≡ index_of s)
unfolding whole_of index_of is_index is_digits
index_value s n h l =
    let w = whole_is s n h.counts l in
    let r = both (is_digits s) (not (list_all is_zero_digit s)) h.right in
    let d = both (is_filled s) (list_all is_digit s) r.0 in
    let same = all_kept s d.1 in
    let up : 0 < whole_of (digits_of s) = subst (λ (t : List ℕ). 0 < fold with_digit 0 t) (sym same) (positive s d.1 (not-true _ r.1)) in
    (omega (arith, w), omega (arith, w))
