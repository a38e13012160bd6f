-- Decimal digits, and pieces of text that are written one after the other. Assumes nothing.
use mathlib.Core.Path.{◌≡◌, refl, sym, ap, ◌∙◌}
use mathlib.Core.Bool.{Bool, true, false, cond}
use mathlib.Core.List.{List, [], ◌∷◌, ◌++◌, append_assoc}
use Prim.Native.Nat.{ℕ, zero, suc, ◌+◌, ◌/◌, ◌%◌, ◌^◌, ◌≤◌, ◌<◌}
use native.Mathlib.Nat.{zero-add}
use native.Mathlib.Omega.{arith}
use lib.Dec.{ltb, leb}
use lib.ListN.{length, get_or, take, drop, length-append, length-take}
use lib.Seq.{sets, sets-eq, length-sets}
use borrow.Rule.Slice.PartMut.{put_mid}
use Rattle.std.proofs.lemmas.List.{drop-drop}
use borrow.Author.Tests.{lt-ltb, le-ltb, lt-leb, le-leb}
use Rattle.recheck_line.specs.Digits.{hex_digit_ascii, last_digits}
use Rattle.std.specs.Prelude.{Option, Some, None, Ok, Err}
use Rattle.std.specs.Fmt as std
use Rattle.std.proofs.lemmas.Fmt.{decimal_from_appends, length-decimal-le}
use Rattle.refusals.specs.Answer.{Answer}
use Rattle.refusals.specs.declared.Refusal.TheVariants.{TooMany, WrongLength}
use Rattle.refusals.specs.Numbers.{number_of, place_of}
use Rattle.sheet.specs.Checker.{check_sheet}
use Rattle.sheet_layout.proofs.Stores.{sets_then}
use Rattle.recheck_line.specs.Line.{places, decimal, accepted_word, refused_word, line_of, answer_line, max_input, recheck_line, input_line, line_room, LineAtStart}

one_more : (t : Bool) (p m : ℕ) → p ≤ suc m → cond t 1 (suc p) ≤ suc (suc m)
one_more true p m h = omega arith
one_more false p m h = omega arith

places-most : (m n : ℕ) → places m n ≤ suc m
unfolding places
places-most zero n = omega arith
places-most (suc m) n = one_more (ltb n 10) (places m (n / 10)) m (places-most m (n / 10))

length_digits : (k n : ℕ) → length (last_digits 10 k n) ≡ k
length_digits zero n = refl
length_digits (suc k) n = simp length-append (rw (length_digits k (n / 10)) (omega arith))

-- ---- `decimal` is std's, which `itoa` writes

-- the same with one digit more for each k, and none at first
abbrev tail : ℕ → ℕ → List ℕ
tail zero n = []
tail (suc k) n = last_digits 10 (places k n) n

last-digit : (n : ℕ) → hex_digit_ascii (n % 10) ≡ 48 + n % 10
last-digit n = rw (lt-ltb (n % 10) 10 (omega arith))

one-digit : (n : ℕ) → n < 10 → hex_digit_ascii (n % 10) ≡ 48 + n
one-digit n h = let e : n % 10 ≡ n = omega arith in rw e (rw (lt-ltb n 10 h))

tail-one : (k n : ℕ) → n < 10 → tail (suc k) n ≡ (48 + n) ∷ []
unfolding places
tail-one zero n h = ap (λ (d : ℕ). d ∷ []) (one-digit n h)
tail-one (suc k) n h = rw (lt-ltb n 10 h) (ap (λ (d : ℕ). d ∷ []) (one-digit n h))

tail-more : (k n : ℕ) → 10 ≤ n → tail (suc k) n ≡ tail k (n / 10) ++ ((48 + n % 10) ∷ [])
unfolding places
tail-more zero n h = ap (λ (d : ℕ). d ∷ []) (last-digit n)
tail-more (suc k) n h = rw (le-ltb n 10 h) (ap (λ (d : ℕ). tail (suc k) (n / 10) ++ (d ∷ [])) (last-digit n))

pub decimal-is : (n : ℕ) → n < 2 ^ 64 → std.decimal n ≡ decimal n
unfolding decimal
decimal-is n h = sym (decimal_from_appends tail (record { one = tail-one; more = tail-more }) 20 n h (length-decimal-le 20 n (omega arith) (omega arith) h))

-- ---- a text in a buffer

-- written over the part of it from `at` on
pub part-written : (l text part : List ℕ) (at k : ℕ) → part ≡ text → k ≡ length text → at + length text ≤ length l → put_mid at k l part ≡ sets l at text
part-written l text part at k same long room =
    let front = take at l in
    ap (λ (p : List ℕ). front ++ (p ++ drop k (drop at l))) same
    ∙ ap (λ (r : List ℕ). front ++ (text ++ r)) (drop-drop k at l ∙ ap (λ (j : ℕ). drop (at + j) l) long)
    ∙ sym (append_assoc front text (drop (at + length text) l))
    ∙ sym (sets-eq text l at room)

-- a text after a text
joined : (l : List ℕ) (t u : List ℕ) (k : ℕ) {s r : List ℕ} → s ≡ sets l 0 t → r ≡ sets s k u → k ≡ length t → r ≡ sets l 0 (t ++ u)
joined l t u k p q e = q ∙ rw p (sets_then l 0 k t u (rw (e, zero-add)))

-- what `put_line` writes
module _ (l word : List ℕ) (x y p q : ℕ) (ep : p ≡ length (decimal x)) (eq : q ≡ length (decimal y)) where
  abbrev digits-end : ℕ
  digits-end = length word + p

  abbrev line-end : ℕ
  line-end = length word + p + 1 + q

  line-length : length (line_of word x y) ≡ line-end + 1
  unfolding line_of
  line-length = simp (length-append, length-append) (omega (arith, ep, eq))

  line-bytes : {s t u v w : List ℕ} → s ≡ sets l 0 word → t ≡ sets s (length word) (decimal x) → u ≡ sets t digits-end (32 ∷ []) → v ≡ sets u (digits-end + 1) (decimal y)
      → w ≡ sets v line-end (10 ∷ []) → w ≡ sets l 0 (line_of word x y)
  unfolding line_of
  line-bytes a b c d e =
      let g = joined l word (decimal x) (length word) a b refl in
      let h = joined l (word ++ decimal x) (32 ∷ []) digits-end g c (simp length-append (omega (arith, ep))) in
      let i = joined l (word ++ decimal x ++ (32 ∷ [])) (decimal y) (digits-end + 1) h d (simp (length-append, length-append) (omega (arith, ep))) in
      let j = joined l (word ++ decimal x ++ (32 ∷ []) ++ decimal y) (10 ∷ []) line-end i e (simp (length-append, length-append, length-append) (omega (arith, ep, eq))) in
      j ∙ simp append_assoc

  pub line-put : {s t u v w : List ℕ} → s ≡ sets l 0 word → t ≡ sets s (length word) (decimal x) → u ≡ sets t digits-end (32 ∷ [])
      → v ≡ sets u (digits-end + 1) (decimal y) → w ≡ sets v line-end (10 ∷ []) → LineAtStart (line-end + 1) w l (line_of word x y)
  line-put a b c d e = record { count = sym line-length; bytes = line-bytes a b c d e }

-- ---- no line is longer than `line_room`

pub decimal-most : (n : ℕ) → length (decimal n) ≤ 20
unfolding decimal
decimal-most n = rw (length_digits (places 19 n) n) (places-most 19 n)

line_of-most : (word : List ℕ) (x y : ℕ) → length word ≤ 9 → length (line_of word x y) ≤ line_room
line_of-most word x y h = omega (arith, line-length [] word x y (length (decimal x)) (length (decimal y)) refl refl, decimal-most x, decimal-most y)

line_most : (a : Answer (List ℕ)) → length (answer_line a) ≤ line_room
unfolding answer_line
line_most (Ok found) = line_of-most accepted_word (get_or found 0 0) (get_or found 1 0) (omega arith)
line_most (Err r) = line_of-most refused_word (number_of r) (place_of r) (omega arith)

recheck_most : (b : List ℕ) → length (recheck_line b) ≤ line_room
unfolding recheck_line
recheck_most b = line_most (cond (leb (length b) max_input) (check_sheet b) (Err TooMany))

input_most : (i : Option ℕ) (b : List ℕ) → length (input_line i b) ≤ line_room
unfolding input_line
input_most (Some n) b = recheck_most (take n b)
input_most None b = line_most (Err WrongLength)

-- so a line of `recheck_line` ends within the buffer
pub line_fits : (i : Option ℕ) (b : List ℕ) {n : ℕ} {new old : List ℕ} → LineAtStart n new old (input_line i b) → line_room ≤ length old → n ≤ length new
line_fits i b {old = old} h r = omega (arith, input_most i b, h.count, ap length h.bytes, length-sets old 0 (input_line i b))

-- ---- what `recheck` prints of the first n bytes

pub long_line : (n : ℕ) (b : List ℕ) → max_input < n → max_input < length b → recheck_line (take n b) ≡ answer_line (Err TooMany)
unfolding recheck_line
long_line n b h room =
    let long : max_input < length (take n b) = simp length-take (omega arith) in
    rw (lt-leb (length (take n b)) max_input long)

pub short_line : (n : ℕ) (b : List ℕ) → n ≤ max_input → recheck_line (take n b) ≡ answer_line (check_sheet (take n b))
unfolding recheck_line
short_line n b h =
    let short : length (take n b) ≤ max_input = simp length-take (omega arith) in
    rw (le-leb (length (take n b)) max_input short)
