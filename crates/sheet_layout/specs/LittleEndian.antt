-- Numbers in a list of bytes, lowest byte first (little-endian), as document 01 stores them: u32 in 4 bytes, u64 in 8, a double as its 64 bits in 8. Every definition takes
-- the width k, a number of bytes. Definitions only.
use Rattle.std.specs.Prelude.{List, [], ◌∷◌, ◌++◌, map, ℕ, zero, suc, ◌+◌, ◌*◌, ◌/◌, ◌%◌, ◌<◌, T, get_or, Float}
use Rattle.std.specs.Float.{nan, binary64}
use Rattle.std.specs.Float.Ieee.{fits, to_bits, of_bits}

-- the k lowest bytes of n, which are all of it where n < 256^k
unfoldable pub bytes : ℕ → ℕ → List ℕ
bytes zero n = []
bytes (suc k) n = n % 256 ∷ bytes k (n / 256)

-- the number in the k bytes of b from place i on, where past the end of b there are zeros
unfoldable pub number : ℕ → List ℕ → ℕ → ℕ
number zero b i = 0
number (suc k) b i = get_or b i 0 + 256 * number k b (suc i)

-- the numbers of a list as k bytes each, one after the other
unfoldable pub pack : ℕ → List ℕ → List ℕ
pack k [] = []
pack k (x ∷ xs) = bytes k x ++ pack k xs

-- the n numbers of k bytes each in b from place i on
unfoldable pub unpack : ℕ → ℕ → List ℕ → ℕ → List ℕ
unpack k zero b i = []
unpack k (suc n) b i = number k b i ∷ unpack k n b (i + k)

-- doubles as their 64 bits, and back; the bits of every NaN give the one NaN
abbrev pub bits : List Float → List ℕ
bits xs = map (to_bits binary64) xs

abbrev pub doubles : List ℕ → List Float
doubles ns = map (of_bits binary64) ns

-- every entry of b is a byte
abbrev pub IsBytes : List ℕ → Type 0
IsBytes b = (i : ℕ) → get_or b i 0 < 256

-- every entry of xs is a number of the format binary64, an infinity or a NaN
abbrev pub IsDoubles : List Float → Type 0
IsDoubles xs = (i : ℕ) → T (fits binary64 (get_or xs i nan))
