-- A number as bytes, and back. Assumes nothing.
use mathlib.Core.Path.{◌≡◌, refl, sym, ap}
use mathlib.Core.List.{List, [], ◌∷◌, ◌++◌}
use Prim.Native.Nat.{ℕ, zero, suc, ◌+◌, ◌*◌, ◌/◌, ◌%◌, ◌^◌, ◌≤◌, ◌<◌}
use native.Mathlib.Nat.{zero-add, add-suc, suc-add, pow-suc}
use native.Mathlib.Numerals.{add-one}
use native.Mathlib.Omega.{arith}
use lib.ListN.{length, get_or, take, drop}
use lib.Seq.{drop-cons, get_or-take, get_or-drop}
use Rattle.std.specs.Int.{w32, to_le_bytes, from_le_bytes}
use Rattle.sheet_layout.specs.LittleEndian.{bytes, number, IsBytes}

pub bytes-length : (k n : ℕ) → length (bytes k n) ≡ k
unfolding bytes
bytes-length zero n = refl
bytes-length (suc k) n = ap suc (bytes-length k (n / 256))

number_tail : (k x : ℕ) (b : List ℕ) (i : ℕ) → number k (x ∷ b) (suc i) ≡ number k b i
unfolding number
number_tail zero x b i = refl
number_tail (suc k) x b i = rw (number_tail k x b (suc i))

pub number_skip : (k : ℕ) (p r : List ℕ) (i : ℕ) → number k (p ++ r) (length p + i) ≡ number k r i
number_skip k [] r i = rw zero-add
number_skip k (x ∷ p) r i = rw (suc-add, number_tail) (number_skip k p r i)

-- a number that is written is read back
pub number-bytes : (k n : ℕ) (q : List ℕ) → n < 256 ^ k → number k (bytes k n ++ q) 0 ≡ n
unfolding number bytes
number-bytes zero n q h = omega arith
number-bytes (suc k) n q h =
    let g : n < 256 ^ k * 256 = rw (sym (pow-suc 256 k)) h in
    rw (number_tail k (n % 256) (bytes k (n / 256) ++ q) 0, number-bytes k (n / 256) q (omega arith)) (omega arith)

-- bytes that are read are written back
pub bytes-number : (k : ℕ) (b : List ℕ) (i : ℕ) → IsBytes b → i + k ≤ length b → bytes k (number k b i) ≡ take k (drop i b)
unfolding number bytes
bytes-number zero b i B h = refl
bytes-number (suc k) b i B h =
    let x = get_or b i 0 in
    let m = number k b (suc i) in
    let low : (x + 256 * m) % 256 ≡ x = omega (arith, B i) in
    let high : (x + 256 * m) / 256 ≡ m = omega (arith, B i) in
    rw (low, high, drop-cons b i 0 (omega arith), bytes-number k b (suc i) B (omega arith))

-- a number that stands in a part of the list
pub number-part : (k m : ℕ) (b : List ℕ) (i j : ℕ) → j + k ≤ m → number k (take m (drop i b)) j ≡ number k b (i + j)
unfolding number
number-part zero m b i j h = refl
number-part (suc k) m b i j h = rw (get_or-take m (drop i b) j 0 (omega arith), get_or-drop i b j 0, number-part k m b i (suc j) (omega arith), add-suc)

pub bytes_are : (k n : ℕ) (q : List ℕ) → IsBytes q → IsBytes (bytes k n ++ q)
unfolding bytes
bytes_are zero n q h i = h i
bytes_are (suc k) n q h zero = omega arith
bytes_are (suc k) n q h (suc i) = bytes_are k (n / 256) q h i

pub number_lt : (k : ℕ) (b : List ℕ) (i : ℕ) → IsBytes b → number k b i < 256 ^ k
unfolding number
number_lt zero b i B = omega arith
number_lt (suc k) b i B =
    let h : number k b (suc i) < 256 ^ k = number_lt k b (suc i) B in
    let e : 256 ^ suc k ≡ 256 ^ k * 256 = pow-suc 256 k in
    omega (arith, B i)

-- ---- as the code computes them

pub two : (i : ℕ) → i + 2 ≡ suc (suc i)
two i = omega arith

pub three : (i : ℕ) → i + 3 ≡ suc (suc (suc i))
three i = omega arith

pub four : (i : ℕ) → i + 4 ≡ suc (suc (suc (suc i)))
four i = omega arith

cons : {x y : ℕ} {xs ys : List ℕ} → x ≡ y → xs ≡ ys → x ∷ xs ≡ y ∷ ys
cons p q = cc

number-four : (b : List ℕ) (i : ℕ) → number 4 b i ≡ get_or b i 0 + 256 * (get_or b (i + 1) 0 + 256 * (get_or b (i + 2) 0 + 256 * get_or b (i + 3) 0))
unfolding number
number-four b i = rw (add-one, two, three) (omega arith)

pub from_four : (b : List ℕ) (i : ℕ) → from_le_bytes w32 (get_or b i 0 ∷ get_or b (i + 1) 0 ∷ get_or b (i + 2) 0 ∷ get_or b (i + 3) 0 ∷ []) ≡ number 4 b i
from_four b i = rw number-four (omega arith)

pub bytes_four : (x : ℕ) → to_le_bytes w32 x ≡ bytes 4 x
unfolding bytes
bytes_four x = cons (omega arith) (cons (omega arith) (cons (omega arith) (cons (omega arith) refl)))

-- eight bytes are four and four
pub number_eight : (b : List ℕ) (i : ℕ) → number 8 b i ≡ number 4 b i + 4294967296 * number 4 b (i + 4)
unfolding number
number_eight b i = rw four (omega arith)

pub bytes_eight : (x : ℕ) → bytes 8 x ≡ bytes 4 (x % 4294967296) ++ bytes 4 (x / 4294967296)
unfolding bytes
bytes_eight x = cons (omega arith) (cons (omega arith) (cons (omega arith) (cons (omega arith) (cons (omega arith) (cons (omega arith) (cons (omega arith) (cons (omega arith) refl)))))))
