-- Text as a list of bytes: its lines, and the fields of a line. Definitions only.
use Rattle.std.specs.Prelude.{Bool, true, false, List, [], ◌∷◌, ℕ, eqb}
use Rattle.std.specs.List.{filter, slice_split}

-- ---- bytes by their names

abbrev pub newline : ℕ
newline = 10

abbrev pub space : ℕ
space = 32

abbrev pub hash : ℕ
hash = 35

abbrev pub minus : ℕ
minus = 45

abbrev pub point : ℕ
point = 46

-- the digit 0; the digits 0 to 9 are the bytes 48 to 57
abbrev pub digit0 : ℕ
digit0 = 48

abbrev pub letter_f : ℕ
letter_f = 102

abbrev pub letter_v : ℕ
letter_v = 118

-- ---- pieces

-- the pieces of s between its bytes b, in order, empty ones too: one piece more than s has bytes b
unfoldable pub split : ℕ → List ℕ → List (List ℕ)
split b s = slice_split (λ x. eqb x b) s

abbrev pub is_filled : List ℕ → Bool
is_filled [] = false
is_filled (x ∷ s) = true

-- ---- lines and fields

-- the lines of a text; what follows the last newline is a line too
abbrev pub lines : List ℕ → List (List ℕ)
lines t = split newline t

-- the fields of a line: its pieces between spaces, empty ones left out. No other byte separates
unfoldable pub fields : List ℕ → List (List ℕ)
fields l = filter is_filled (split space l)
