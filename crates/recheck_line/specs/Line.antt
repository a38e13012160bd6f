-- The line that `recheck` prints, in ASCII, as document 01 has it: `accepted KIND S` or `refused NUMBER PLACE`, and a newline. Definitions only.
use Rattle.std.specs.Prelude.{◌≡◌, cond, List, [], ◌∷◌, ◌++◌, ℕ, zero, suc, ◌/◌, ltb, leb, length, get_or, take, Option, Some, None, Ok, Err}
use Rattle.std.proofs.lemmas.List.Edits.{sets}
use Rattle.recheck_line.specs.Digits.{last_digits}
use Rattle.refusals.specs.Answer.{Answer}
use Rattle.refusals.specs.declared.Refusal.TheVariants.{TooMany, WrongLength}
use Rattle.refusals.specs.Numbers.{number_of, place_of}
use Rattle.sheet.specs.Checker.{check_sheet}

-- how many decimal digits n has, but at most m more than one
unfoldable pub places : ℕ → ℕ → ℕ
places zero n = 1
places (suc m) n = cond (ltb n 10) 1 (suc (places m (n / 10)))

-- n in decimal digits, the first not 0 unless n is; a number of 64 bits has at most 20
unfoldable pub decimal : ℕ → List ℕ
decimal n = last_digits 10 (places 19 n) n

-- `accepted ` and `refused `
abbrev pub accepted_word : List ℕ
accepted_word = 97 ∷ 99 ∷ 99 ∷ 101 ∷ 112 ∷ 116 ∷ 101 ∷ 100 ∷ 32 ∷ []

abbrev pub refused_word : List ℕ
refused_word = 114 ∷ 101 ∷ 102 ∷ 117 ∷ 115 ∷ 101 ∷ 100 ∷ 32 ∷ []

-- the word, x, a space, y and a newline
unfoldable pub line_of : List ℕ → ℕ → ℕ → List ℕ
line_of word x y = word ++ (decimal x ++ (32 ∷ (decimal y ++ (10 ∷ []))))

-- of what the checker answers: the kind and S, or the refusal
unfoldable pub answer_line : Answer (List ℕ) → List ℕ
answer_line (Ok found) = line_of accepted_word (get_or found 0 0) (get_or found 1 0)
answer_line (Err r) = line_of refused_word (number_of r) (place_of r)

-- document 01: a sheet of up to 65,536 bytes; longer input prints `refused 2 0`
abbrev pub max_input : ℕ
max_input = 65536

unfoldable pub recheck_line : List ℕ → List ℕ
recheck_line b = answer_line (cond (leb (length b) max_input) (check_sheet b) (Err TooMany))

-- what `recheck` prints of its input, of which n bytes stand at the start of b. Where a read failed the sheet is not there whole: `refused 16 0`
unfoldable pub input_line : Option ℕ → List ℕ → List ℕ
input_line (Some n) b = recheck_line (take n b)
input_line None b = answer_line (Err WrongLength)

-- ---- a line in a lent buffer

-- no line is longer (`line_most`, proofs/Text)
abbrev pub line_room : ℕ
line_room = 51

-- the buffer, which was `old`, starts with the line, of n bytes, and is otherwise as it was
pub record LineAtStart (n : ℕ) (new old line : List ℕ) : Type 0 where
  pub count : n ≡ length line
  pub bytes : new ≡ sets old 0 line
