-- A file made of parts that follow each other without gaps. A part is a width k and a list of numbers of k bytes each. Definitions only.
use Rattle.std.specs.Prelude.{List, [], ◌∷◌, ◌++◌, ℕ, ◌+◌, ◌*◌, ◌^◌, ◌<◌, length, get_or}
use Prim.{Unit}
use Rattle.sheet_layout.specs.LittleEndian.{pack, unpack}

-- a width, and the numbers
abbrev pub Part : Type 0
Part = ℕ × List ℕ

-- a width, and how many numbers
abbrev pub Run : Type 0
Run = ℕ × ℕ

-- the bytes of all parts
abbrev pub joined : List Part → List ℕ
joined [] = []
joined ((k, xs) ∷ ps) = pack k xs ++ joined ps

-- the width and count of each part
abbrev pub layout : List Part → List Run
layout [] = []
layout ((k, xs) ∷ ps) = (k, length xs) ∷ layout ps

-- how many bytes a layout takes
abbrev pub size : List Run → ℕ
size [] = 0
size ((k, n) ∷ rs) = n * k + size rs

-- the parts of a layout that stand in b from place i on
abbrev pub split : List Run → List ℕ → ℕ → List Part
split [] b i = []
split ((k, n) ∷ rs) b i = (k, unpack k n b i) ∷ split rs b (i + n * k)

-- each number fits its part's width
abbrev pub EachFits : List Part → Type 0
EachFits [] = Unit {0}
EachFits ((k, xs) ∷ ps) = ((i : ℕ) → get_or xs i 0 < 256 ^ k) × EachFits ps
