-- Worked examples of the definitions, each a statement by itself. Assumes nothing.
use Rattle.std.specs.Prelude.{◌≡◌, refl, [], ◌∷◌}
use Rattle.std.specs.Float.Ieee.{of_bits, to_bits}
use Rattle.doubles.specs.Constants.{1·5}
use Rattle.sheet_layout.specs.LittleEndian.{bytes, number, pack, unpack, bits}
use Rattle.sheet_layout.specs.Parts.{joined, split}

-- 1000 = 232 + 3 · 256
pub thousand : bytes 4 1000 ≡ 232 ∷ 3 ∷ 0 ∷ 0 ∷ []
unfolding bytes
thousand = refl

pub thousand_read : number 4 (9 ∷ 232 ∷ 3 ∷ 0 ∷ 0 ∷ []) 1 ≡ 1000
unfolding number
thousand_read = refl

-- the double 1.5 is 0x3ff8000000000000
pub one_and_a_half : pack 8 (bits (1·5 ∷ [])) ≡ 0 ∷ 0 ∷ 0 ∷ 0 ∷ 0 ∷ 0 ∷ 248 ∷ 63 ∷ []
unfolding pack bytes of_bits to_bits
one_and_a_half = refl

-- two numbers of 2 bytes, then one of 4
pub two_parts : joined ((2, 5 ∷ 6 ∷ []) ∷ (4, 1000 ∷ []) ∷ []) ≡ 5 ∷ 0 ∷ 6 ∷ 0 ∷ 232 ∷ 3 ∷ 0 ∷ 0 ∷ []
unfolding pack bytes
two_parts = refl

pub two_parts_read : split ((2, 2) ∷ (4, 1) ∷ []) (5 ∷ 0 ∷ 6 ∷ 0 ∷ 232 ∷ 3 ∷ 0 ∷ 0 ∷ []) 0 ≡ (2, 5 ∷ 6 ∷ []) ∷ (4, 1000 ∷ []) ∷ []
unfolding unpack number
two_parts_read = refl
