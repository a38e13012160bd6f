-- Files of parts: taken apart and joined again, and joined and taken apart again, they are themselves. Assumes nothing.
use mathlib.Core.Path.{◌≡◌, refl, sym, ap, ◌∙◌}
use mathlib.Core.List.{List, [], ◌∷◌, ◌++◌, append_assoc, append-nil}
use Prim.Native.Nat.{ℕ, ◌+◌, ◌*◌}
use native.Mathlib.Nat.{zero-add, add-zero, mul_comm}
use native.Mathlib.Omega.{arith}
use lib.ListN.{length, drop, length-append, drop_of_length-le, take-append-drop}
use lib.Seq.{sets, drop-drop}
use Rattle.sheet_layout.specs.LittleEndian.{pack, IsBytes}
use Rattle.sheet_layout.specs.Parts.{Part, Run, joined, layout, size, split, EachFits}
use Rattle.sheet_layout.proofs.Stores.{sets_then}
use Rattle.sheet_layout.proofs.Lists.{pack-length, pack_are, pack-unpack, unpack-pack, unpack_skip}

pub joined_length : (ps : List Part) → length (joined ps) ≡ size (layout ps)
joined_length [] = refl
joined_length ((k, xs) ∷ ps) = rw (length-append, pack-length, joined_length ps, mul_comm k (length xs))

pub joined_are : (ps : List Part) → IsBytes (joined ps)
joined_are [] i = omega arith
joined_are ((k, xs) ∷ ps) i = pack_are k xs (joined ps) (joined_are ps) i

pub joined-append : (ps qs : List Part) → joined (ps ++ qs) ≡ joined ps ++ joined qs
joined-append [] qs = refl
joined-append ((k, xs) ∷ ps) qs = rw (joined-append ps qs, append_assoc)

-- bytes that are taken apart and joined again are themselves
pub joined-split : (rs : List Run) (b : List ℕ) (i : ℕ) → IsBytes b → i + size rs ≡ length b → joined (split rs b i) ≡ drop i b
joined-split [] b i B h = sym (drop_of_length-le b {i = i} (omega arith))
joined-split ((k, n) ∷ rs) b i B h =
    rw (pack-unpack k n b i B (omega arith), joined-split rs b (i + n * k) B (omega arith), ← drop-drop (n * k) i b) (take-append-drop (n * k) (drop i b))

split_skip : (rs : List Run) (q r : List ℕ) (i : ℕ) → split rs (q ++ r) (length q + i) ≡ split rs r i
split_skip [] q r i = refl
split_skip ((k, n) ∷ rs) q r i =
    let e : length q + i + n * k ≡ length q + (i + n * k) = omega arith in
    rw (unpack_skip, e, split_skip rs q r (i + n * k))

-- parts that are joined and taken apart again are themselves
pub split-joined : (ps : List Part) → EachFits ps → split (layout ps) (joined ps) 0 ≡ ps
split-joined [] h = refl
split-joined ((k, xs) ∷ ps) h =
    let e : 0 + length xs * k ≡ length (pack k xs) + 0 = rw (pack-length, zero-add, add-zero) (mul_comm (length xs) k) in
    rw (unpack-pack k xs (joined ps) h.0, e, split_skip (layout ps) (pack k xs) (joined ps) 0, split-joined ps h.1)

-- parts that are written, and one more right after them
pub then_part : (l : List ℕ) (base : ℕ) (ps : List Part) (k : ℕ) (xs : List ℕ) (at : ℕ) {o r : List ℕ} → o ≡ sets l base (joined ps) → r ≡ sets o at (pack k xs)
    → at ≡ base + size (layout ps) → r ≡ sets l base (joined (ps ++ ((k, xs) ∷ [])))
then_part l base ps k xs at p q e =
    q ∙ rw (p, joined-append ps ((k, xs) ∷ []), append-nil) (sets_then l base at (joined ps) (pack k xs) (e ∙ ap (λ (n : ℕ). base + n) (sym (joined_length ps))))
