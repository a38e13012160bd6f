-- Decimal digits. States: `size_is`: how many a number has, by its logarithm; `numeral_short`, `corner_short`, `coordinate_short`: a numeral has at most ten, and a coordinate's text eleven bytes; `numeral_digits`:
-- a numeral is all of the number's digits; `digits_length`: how many digits a given count gives; `digit_turn`: they may be stored from the last one on. Assumes nothing.
use Rattle.std.proofs.Common.{◌≡◌, ℕ, zero, suc, ◌+◌, ◌-◌, ◌*◌, ◌/◌, ◌%◌, ◌^◌, ◌<◌, ◌≤◌, Bool, true, false, cond, List, [], ◌∷◌, ◌++◌, length, set, Option, Some, None, sym, refl, ap, ◌∙◌, ⊎_elim, add-zero, add-suc, suc-add, pow-suc, add-one, arith, length-append, le-ltb, lt-ltb}
use Rattle.std.proofs.Math.Nat.{one-le-pow, pow-le-pow_right}
use Rattle.std.specs.Option.{IfNone, IfSome, unwrap_or}
use lib.Seq.{sets, set_comm}
use lib.Ieee.{Float}
use Rattle.doubles.specs.Magnitude.{negative}
use Rattle.lists.proofs.Numbers.{below?}
use Rattle.obj.specs.Text.{minus, digit0}
use Rattle.obj.specs.Whole.{magnitude_of}
use Rattle.obj.specs.Writer.{max_coordinate, numeral_in, numeral, coordinate}
use Rattle.obj_numerals.specs.Digits.{digits}

-- ---- how many

one_digit : (k n : ℕ) → n < 10 → length (numeral_in k n) ≡ 1
one_digit zero n l = refl
one_digit (suc k) n l = rw (lt-ltb n 10 l)

one_more : (k n : ℕ) → 10 ≤ n → length (numeral_in (suc k) n) ≡ suc (length (numeral_in k (n / 10)))
one_more k n l = rw (le-ltb n 10 l) (length-append (numeral_in k (n / 10)) _ ∙ add-one _)

-- from 10^m up to 10^(m + 1)
more_digits : (m k n : ℕ) → m ≤ k → 10 ^ m ≤ n → n < 10 ^ suc m → length (numeral_in k n) ≡ suc m
more_digits zero k n h a b = one_digit k n b
more_digits (suc m) zero n h a b = absurd (omega arith)
more_digits (suc m) (suc k) n h a b =
    let p = pow-suc 10 m in
    let q = pow-suc 10 (suc m) in
    let o = one-le-pow m 10 (omega arith) in
    one_more k n (omega arith) ∙ ap suc (more_digits m k (n / 10) (omega arith) (omega arith) (omega arith))

pub size_is : (n : ℕ) (log : Option ℕ) → n ≤ max_coordinate → IfNone log (n ≡ 0) → IfSome log (λ k. 10 ^ k ≤ n) → IfSome log (λ k. n < 10 * 10 ^ k) → unwrap_or log 0 + 1 ≡ length (numeral n)
unfolding numeral
size_is n None h z a b = sym (one_digit 9 n (omega arith))
size_is n (Some k) h z a b =
    let p = pow-suc 10 k in
    let few : k ≤ 9 = ⊎_elim (λ l. let q = pow-le-pow_right {n = 10} (omega arith) {i = 10} {j = k} l in absurd (omega arith)) (λ l. l) (below? 9 k) in
    add-one k ∙ sym (more_digits k 9 n few a (omega arith))

size_in : (k n : ℕ) → length (numeral_in k n) ≤ suc k
size_in zero n = omega arith
size_in (suc k) n = ⊎_elim (λ l. omega (arith, one_digit (suc k) n l)) (λ l. omega (arith, one_more k n l, size_in k (n / 10))) (below? n 10)

pub numeral_short : (n : ℕ) → length (numeral n) ≤ 10
unfolding numeral
numeral_short n = size_in 9 n

-- of a vertex number, which counts from 1
pub corner_short : (v : ℕ) → length (numeral (v + 1)) ≤ 11
corner_short v = omega (arith, numeral_short (v + 1))

pub coordinate_short : (x : Float) → length (coordinate x) ≤ 11
unfolding coordinate
coordinate_short x = go (negative x)
  where
    go : (b : Bool) → length (cond b (minus ∷ numeral (magnitude_of x)) (numeral (magnitude_of x))) ≤ 11
    go true = omega (arith, numeral_short (magnitude_of x))
    go false = omega (arith, numeral_short (magnitude_of x))

-- ---- a numeral is all digits

module _ (k n : ℕ) where
  small_digits : n < 10 → numeral_in (suc k) n ≡ digits (length (numeral_in (suc k) n)) n
  small_digits l = rw (lt-ltb n 10 l) (let e : n % 10 ≡ n = omega arith in ap (λ (d : ℕ). (digit0 + d) ∷ []) (sym e))

  large_digits : numeral_in k (n / 10) ≡ digits (length (numeral_in k (n / 10))) (n / 10) → 10 ≤ n → numeral_in (suc k) n ≡ digits (length (numeral_in (suc k) n)) n
  large_digits h l = rw (one_more k n l, le-ltb n 10 l) (ap (λ (y : List ℕ). y ++ (digit0 + n % 10) ∷ []) h)

in_digits : (k n : ℕ) → numeral_in k n ≡ digits (length (numeral_in k n)) n
in_digits zero n = refl
in_digits (suc k) n = ⊎_elim (small_digits k n) (large_digits k n (in_digits k (n / 10))) (below? n 10)

pub numeral_digits : (n size : ℕ) → size ≡ length (numeral n) → digits size n ≡ numeral n
unfolding numeral
numeral_digits n size e = rw e (sym (in_digits 9 n))

-- ---- stored from the last one on

pub digits_length : (k n : ℕ) → length (digits k n) ≡ k
digits_length zero n = refl
digits_length (suc k) n = length-append (digits k (n / 10)) _ ∙ add-one _ ∙ ap suc (digits_length k (n / 10))

-- a run is its last element, and then the rest of it
last_first : (l : List ℕ) (at : ℕ) (xs : List ℕ) (d : ℕ) → sets l at (xs ++ d ∷ []) ≡ sets (set l (at + length xs) d) at xs
last_first l at [] d = rw add-zero
last_first l at (x ∷ xs) d =
    last_first (set l at x) (suc at) xs d
    ∙ ap (λ (y : List ℕ). sets y (suc at) xs) (rw (add-suc, suc-add) (set_comm l at (suc (at + length xs)) x d (λ e. omega arith)))

-- digit i of those that end at place i, and then the others
pub digit_turn : (l : List ℕ) (at i n : ℕ) → at < i → sets (set l (i - 1) (digit0 + n % 10)) at (digits (i - 1 - at) (n / 10)) ≡ sets l at (digits (i - at) n)
digit_turn l at i n h = go (i - 1 - at) (omega arith) (omega arith)
  where
    go : (k : ℕ) → i - 1 ≡ at + k → i - at ≡ suc k → sets (set l (i - 1) (digit0 + n % 10)) at (digits k (n / 10)) ≡ sets l at (digits (i - at) n)
    go k p q = rw (p, q) (sym (last_first l at (digits k (n / 10)) (digit0 + n % 10) ∙ rw (digits_length k (n / 10))))
