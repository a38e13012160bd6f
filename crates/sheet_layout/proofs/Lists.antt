-- Lists of numbers as bytes, and back. Assumes nothing.
use mathlib.Core.Path.{◌≡◌, refl, sym, ap, ◌∙◌}
use mathlib.Core.List.{List, [], ◌∷◌, ◌++◌, append_assoc, append-nil}
use Prim.Native.Nat.{ℕ, zero, suc, ◌+◌, ◌*◌, ◌^◌, ◌≤◌, ◌<◌}
use native.Mathlib.Nat.{zero-add, add-zero, suc-add, add_comm, mul-zero, zero-mul, mul-suc, suc-mul, not-suc-le-zero}
use native.Mathlib.Omega.{arith}
use lib.ListN.{length, get_or, take, drop, length-append}
use lib.Seq.{take-add, drop-drop}
use Rattle.sheet_layout.specs.LittleEndian.{bytes, number, pack, unpack, IsBytes}
use Rattle.sheet_layout.proofs.Numbers.{bytes-length, bytes_are, number_skip, number-part, number-bytes, bytes-number, number_lt}

pub pack-append : (k : ℕ) (xs ys : List ℕ) → pack k (xs ++ ys) ≡ pack k xs ++ pack k ys
unfolding pack
pack-append k [] ys = refl
pack-append k (x ∷ xs) ys = rw (pack-append k xs ys, append_assoc)

pub pack_one : (k x : ℕ) → pack k (x ∷ []) ≡ bytes k x
unfolding pack
pack_one k x = append-nil (bytes k x)

pub pack-length : (k : ℕ) (xs : List ℕ) → length (pack k xs) ≡ k * length xs
unfolding pack
pack-length k [] = rw mul-zero
pack-length k (x ∷ xs) = rw (length-append, bytes-length, pack-length k xs, mul-suc) (omega arith)

pub unpack-length : (k n : ℕ) (b : List ℕ) (i : ℕ) → length (unpack k n b i) ≡ n
unfolding unpack
unpack-length k zero b i = refl
unpack-length k (suc n) b i = ap suc (unpack-length k n b (i + k))

pub unpack-append : (k m n : ℕ) (b : List ℕ) (i : ℕ) → unpack k (m + n) b i ≡ unpack k m b i ++ unpack k n b (i + m * k)
unfolding unpack
unpack-append k zero n b i = rw (zero-add, zero-mul, add-zero)
unpack-append k (suc m) n b i =
    let e : i + k + m * k ≡ i + suc m * k = rw suc-mul (omega arith) in
    rw suc-add (ap (λ (r : List ℕ). number k b i ∷ r) (unpack-append k m n b (i + k) ∙ rw e))

-- one number of a list, where it stands
pub unpack-at : (k n : ℕ) (b : List ℕ) (i j : ℕ) → j < n → get_or (unpack k n b i) j 0 ≡ number k b (i + j * k)
unfolding unpack
unpack-at k zero b i j h = absurd (not-suc-le-zero h)
unpack-at k (suc n) b i zero h = rw (zero-mul, add-zero)
unpack-at k (suc n) b i (suc j) h =
    let e : i + (j * k + k) ≡ i + k + j * k = omega arith in
    rw (suc-mul, e) (unpack-at k n b (i + k) j (omega arith))

pub unpack-lt : (k n : ℕ) (b : List ℕ) (i : ℕ) → IsBytes b → 0 < 256 ^ k → (j : ℕ) → get_or (unpack k n b i) j 0 < 256 ^ k
unfolding unpack
unpack-lt k zero b i B z j = z
unpack-lt k (suc n) b i B z zero = number_lt k b i B
unpack-lt k (suc n) b i B z (suc j) = unpack-lt k n b (i + k) B z j

pub unpack_skip : (k n : ℕ) (p r : List ℕ) (i : ℕ) → unpack k n (p ++ r) (length p + i) ≡ unpack k n r i
unfolding unpack
unpack_skip k zero p r i = refl
unpack_skip k (suc n) p r i =
    let e : length p + i + k ≡ length p + (i + k) = omega arith in
    rw (number_skip, e, unpack_skip k n p r (i + k))

-- numbers that stand in a part of the list
pub unpack-part : (k n m : ℕ) (b : List ℕ) (i j : ℕ) → j + n * k ≤ m → unpack k n (take m (drop i b)) j ≡ unpack k n b (i + j)
unfolding unpack
unpack-part k zero m b i j h = refl
unpack-part k (suc n) m b i j h =
    let g : j + (n * k + k) ≤ m = rw (sym (suc-mul n k)) h in
    let e : i + j + k ≡ i + (j + k) = omega arith in
    rw (number-part k m b i j (omega arith), unpack-part k n m b i (j + k) (omega arith), e)

pub pack_are : (k : ℕ) (xs q : List ℕ) → IsBytes q → IsBytes (pack k xs ++ q)
unfolding pack
pack_are k [] q h = h
pack_are k (x ∷ xs) q h = rw append_assoc (bytes_are k x (pack k xs ++ q) (pack_are k xs q h))

-- numbers that are written are read back
pub unpack-pack : (k : ℕ) (xs q : List ℕ) → ((i : ℕ) → get_or xs i 0 < 256 ^ k) → unpack k (length xs) (pack k xs ++ q) 0 ≡ xs
unfolding pack unpack
unpack-pack k [] q h = refl
unpack-pack k (x ∷ xs) q h =
    let e : 0 + k ≡ length (bytes k x) + 0 = simp bytes-length (omega arith) in
    rw (append_assoc, number-bytes k x (pack k xs ++ q) (h 0), e, unpack_skip k (length xs) (bytes k x) (pack k xs ++ q) 0, unpack-pack k xs q (λ i. h (suc i)))

-- bytes that are read are written back
pub pack-unpack : (k n : ℕ) (b : List ℕ) (i : ℕ) → IsBytes b → i + n * k ≤ length b → pack k (unpack k n b i) ≡ take (n * k) (drop i b)
unfolding pack unpack
pack-unpack k zero b i B h = rw zero-mul
pack-unpack k (suc n) b i B h =
    let g : i + (n * k + k) ≤ length b = rw (sym (suc-mul n k)) h in
    rw (bytes-number k b i B (omega arith), pack-unpack k n b (i + k) B (omega arith), suc-mul, add_comm (n * k) k, take-add, drop-drop)
