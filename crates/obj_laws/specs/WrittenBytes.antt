-- The bytes that stand in what `write_obj` writes. Definitions only.
use Rattle.std.specs.Prelude.{Bool, ◌||◌, List, ℕ, eqb}
use Rattle.std.specs.List.{list_all}
use Rattle.obj.specs.Text.{newline, space, minus, letter_f, letter_v}
use Rattle.obj.specs.Decimal.{is_digit}

-- those of a line, and those of a text
abbrev pub is_line_byte : ℕ → Bool
is_line_byte c = is_digit c || (eqb c minus || (eqb c space || (eqb c letter_v || eqb c letter_f)))

abbrev pub is_text_byte : ℕ → Bool
is_text_byte c = eqb c newline || is_line_byte c

abbrev pub only_these : List ℕ → Bool
only_these s = list_all is_text_byte s
