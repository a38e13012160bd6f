-- A number as decimal text, as the kit's older library `io` stated it. Definitions only.
use Rattle.std.specs.Prelude.{ℕ, zero, suc, ◌+◌, ◌/◌, ◌%◌, cond, List, [], ◌∷◌, ◌++◌, nat_lt}

-- the ASCII code of a digit below 16: `0` to `9`, then `a` to `f`
abbrev pub hex_digit_ascii : ℕ → ℕ
hex_digit_ascii d = cond (nat_lt d 10) (48 + d) (87 + d)

-- the last k digits of n in base b, the most significant first
abbrev pub last_digits : ℕ → ℕ → ℕ → List ℕ
last_digits b zero n = []
last_digits b (suc k) n = last_digits b k (n / b) ++ (hex_digit_ascii (n % b) ∷ [])
