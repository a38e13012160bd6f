-- Decimal numbers and indices as fields of a line: their forms, their digits, their values. Definitions only.
use Rattle.std.specs.Prelude.{Bool, true, false, not, ◌&&◌, cond, List, [], ◌∷◌, ℕ, ◌+◌, ◌-◌, ◌*◌, ◌^◌, length, eqb, leb, pos, Float}
use Rattle.std.specs.Float.{binary64}
use Rattle.std.specs.Float.Ieee.{of_int, neg}
use Rattle.doubles.specs.Rounded.{◌⊘◌}
use Rattle.std.specs.List.{filter, fold, list_all}
use Rattle.obj.specs.Text.{minus, point, digit0, split, is_filled}

-- ---- forms

abbrev pub is_digit : ℕ → Bool
is_digit c = leb digit0 c && leb c (digit0 + 9)

-- one or more digits
unfoldable pub is_digits : List ℕ → Bool
is_digits s = is_filled s && list_all is_digit s

abbrev pub is_zero_digit : ℕ → Bool
is_zero_digit c = eqb c digit0

-- an index: one or more digits, not all of them 0
unfoldable pub is_index : List ℕ → Bool
is_index s = is_digits s && not (list_all is_zero_digit s)

abbrev pub has_minus : List ℕ → Bool
has_minus [] = false
has_minus (c ∷ s) = eqb c minus

-- without the minus in front, where there is one
abbrev pub unsigned : List ℕ → List ℕ
unsigned [] = []
unsigned (c ∷ s) = cond (eqb c minus) s (c ∷ s)

-- one piece of digits, or two
abbrev pub one_or_two : List (List ℕ) → Bool
one_or_two [] = false
one_or_two (w ∷ []) = is_digits w
one_or_two (w ∷ p ∷ []) = is_digits w && is_digits p
one_or_two (w ∷ p ∷ q ∷ ps) = false

-- a number: a minus or nothing, one or more digits, and, optionally, a point and one or more digits
unfoldable pub is_number : List ℕ → Bool
is_number s = one_or_two (split point (unsigned s))

-- ---- digits

-- all digits of a number or an index, zeros in front and after the point among them, sign and point not
unfoldable pub digits_of : List ℕ → List ℕ
digits_of s = filter is_digit s

-- more than these are refused by 22
abbrev pub max_digits : ℕ
max_digits = 15

unfoldable pub few_digits : List ℕ → Bool
few_digits s = leb (length (digits_of s)) max_digits

-- n, and then the digit c behind its own
abbrev pub with_digit : ℕ → ℕ → ℕ
with_digit n c = 10 * n + (c - digit0)

-- digits as a whole number
unfoldable pub whole_of : List ℕ → ℕ
whole_of s = fold with_digit 0 s

abbrev pub length_of_second : List (List ℕ) → ℕ
length_of_second [] = 0
length_of_second (w ∷ []) = 0
length_of_second (w ∷ p ∷ ps) = length p

-- how many digits stand after the point
unfoldable pub places : List ℕ → ℕ
places s = length_of_second (split point (unsigned s))

-- ---- values

-- d / 10^k, by one division
unfoldable pub decimal : ℕ → ℕ → Float
decimal d k = of_int binary64 (pos d) ⊘ of_int binary64 (pos (10 ^ k))

abbrev pub negated_if : Bool → Float → Float
negated_if true x = neg x
negated_if false x = x

-- a number: its digits as a whole number, divided once by the power of ten, and negated after a minus, so that -0 is −0
unfoldable pub value_of : List ℕ → Float
value_of s = negated_if (has_minus s) (decimal (whole_of (digits_of s)) (places s))

-- an index, which counts from 1, as a vertex number, which counts from 0
unfoldable pub index_of : List ℕ → ℕ
index_of s = whole_of (digits_of s) - 1
