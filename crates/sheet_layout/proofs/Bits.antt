-- Doubles as bits, and back. Assumes nothing.
use mathlib.Core.Path.{◌≡◌, refl}
use mathlib.Core.Bool.{false}
use mathlib.Core.List.{List, [], ◌∷◌}
use Prim.{tt}
use Prim.Native.Nat.{ℕ, zero, suc, ◌^◌, ◌<◌}
use native.Mathlib.Omega.{arith}
use lib.ListN.{length, get_or}
use lib.Ieee.{Float, nan, binary64, of_bits, to_bits, is_nan}
use lib.Ieee.Bits.{to_bits-of_bits, of_bits-to_bits, to_bits-lt}
use Rattle.sheet_layout.specs.LittleEndian.{bits, doubles, IsDoubles}

pub bits-lt : (xs : List Float) → IsDoubles xs → (i : ℕ) → get_or (bits xs) i 0 < 256 ^ 8
bits-lt [] h i = omega arith
bits-lt (x ∷ xs) h zero = to_bits-lt binary64 x (h 0)
bits-lt (x ∷ xs) h (suc i) = bits-lt xs (λ j. h (suc j)) i

cons : {A : Type 0} {x y : A} {xs ys : List A} → x ≡ y → xs ≡ ys → x ∷ xs ≡ y ∷ ys
cons p q = cc

-- doubles that are written are read back
pub doubles-bits : (xs : List Float) → IsDoubles xs → doubles (bits xs) ≡ xs
doubles-bits [] h = refl
doubles-bits (x ∷ xs) h = cons (of_bits-to_bits binary64 x (h 0)) (doubles-bits xs (λ j. h (suc j)))

-- bits that are no NaN's are read and written back
pub bits-double : (n : ℕ) → n < 256 ^ 8 → is_nan (of_bits binary64 n) ≡ false → to_bits binary64 (of_bits binary64 n) ≡ n
bits-double n h e = to_bits-of_bits binary64 n h (rw e tt)

pub bits-doubles : (ns : List ℕ) → ((i : ℕ) → get_or ns i 0 < 256 ^ 8) → ((i : ℕ) → i < length ns → is_nan (get_or (doubles ns) i nan) ≡ false) → bits (doubles ns) ≡ ns
bits-doubles [] h n = refl
bits-doubles (x ∷ xs) h n = cons (bits-double x (h 0) (n 0 (omega arith))) (bits-doubles xs (λ i. h (suc i)) (λ i l. n (suc i) (omega arith)))
