-- Coordinates and vertex numbers as they are written. States: `coordinate_written`: a whole coordinate's text is a number that means it, −0 included; `corner_written`: a vertex number's text is an
-- index that means it. Assumes nothing.
use Rattle.std.specs.Prelude.{◌≡◌, refl, Bool, true, false, not, cond, List, [], ◌∷◌, ℕ, ◌+◌, ◌<◌, ◌^◌, T, eqb, length, Float}
use Rattle.std.proofs.Common.{sym, ap, ◌∙◌, arith, le-leb, ne_eqb}
use Rattle.std.specs.Float.{binary64}
use Rattle.std.specs.Float.Ieee.{fits}
use Rattle.std.proofs.lemmas.Bool.{not-true}
use Rattle.lists.proofs.Numbers.{both, true≢false}
use Rattle.doubles.specs.Magnitude.{negative}
use Rattle.obj.specs.Text.{newline, space, minus, point, split}
use Rattle.obj.specs.Decimal.{is_digits, is_index, is_number, has_minus, unsigned, one_or_two, digits_of, max_digits, few_digits, places, decimal, negated_if, value_of, index_of}
use Rattle.obj.specs.Whole.{magnitude_of, is_whole}
use Rattle.obj.specs.Writer.{max_coordinate, numeral, coordinate}
use Rattle.obj.proofs.Pieces.{lacks, split_last}
use Rattle.obj_round_trip.specs.Numerals.{all_of_digits, digits_lack, digits_all, Reads, numeral_reads, reads_index}
use Rattle.obj_round_trip.specs.Wholes.{whole_small, whole_back}

-- the text s is a field of the form asked, with few digits, and means x
pub record Written {A : Type 0} (form : List ℕ → Bool) (meaning : List ℕ → A) (s : List ℕ) (x : A) : Type 0 where
  pub filled : 0 < length s
  pub no_space : lacks space s ≡ true
  pub no_newline : lacks newline s ≡ true
  pub right : form s ≡ true
  pub short : few_digits s ≡ true
  pub means : meaning s ≡ x

-- ---- digits, after a minus or not

abbrev signed : Bool → List ℕ → List ℕ
signed b s = cond b (minus ∷ s) s

-- digits begin with no minus
front : (c : ℕ) (s : List ℕ) → is_digits (c ∷ s) ≡ true → eqb c minus ≡ false
front c s h = not-true (eqb c minus) (both (not (eqb c minus)) (lacks minus s) (digits_lack minus (omega arith) (c ∷ s) (all_of_digits (c ∷ s) h))).0

signed_unsigned : (b : Bool) (s : List ℕ) → is_digits s ≡ true → unsigned (signed b s) ≡ s
unfolding is_digits
signed_unsigned true s h = refl
signed_unsigned false [] h = absurd (true≢false (sym h))
signed_unsigned false (c ∷ s) h = rw (front c s h)

signed_minus : (b : Bool) (s : List ℕ) → is_digits s ≡ true → has_minus (signed b s) ≡ b
unfolding is_digits
signed_minus true s h = refl
signed_minus false [] h = absurd (true≢false (sym h))
signed_minus false (c ∷ s) h = front c s h

signed_digits : (b : Bool) (s : List ℕ) → is_digits s ≡ true → digits_of (signed b s) ≡ s
unfolding digits_of
signed_digits true s h = digits_all s (all_of_digits s h)
signed_digits false s h = digits_all s (all_of_digits s h)

signed_lacks : (c : ℕ) → c < minus → (b : Bool) (s : List ℕ) → is_digits s ≡ true → lacks c (signed b s) ≡ true
signed_lacks c l true s h = rw (ne_eqb minus c (λ e. omega arith), digits_lack c (omega arith) s (all_of_digits s h))
signed_lacks c l false s h = digits_lack c (omega arith) s (all_of_digits s h)

signed_filled : (b : Bool) (s : List ℕ) → is_digits s ≡ true → 0 < length (signed b s)
unfolding is_digits
signed_filled true s h = omega arith
signed_filled false [] h = absurd (true≢false (sym h))
signed_filled false (c ∷ s) h = omega arith

signed_short : (b : Bool) (s : List ℕ) (n : ℕ) → Reads s n → few_digits (signed b s) ≡ true
unfolding few_digits
signed_short b s n r = rw (signed_digits b s r.digits) (le-leb (length s) max_digits (omega (arith, r.few)))

signed_written : {A : Type 0} (form : List ℕ → Bool) (meaning : List ℕ → A) (b : Bool) (s : List ℕ) (n : ℕ) (x : A) → Reads s n → form (signed b s) ≡ true → meaning (signed b s) ≡ x
    → Written form meaning (signed b s) x
signed_written form meaning b s n x r p q = record {
  filled = signed_filled b s r.digits;
  no_space = signed_lacks space (omega arith) b s r.digits;
  no_newline = signed_lacks newline (omega arith) b s r.digits;
  right = p;
  short = signed_short b s n r;
  means = q;
}

-- ---- one number

one_piece : (b : Bool) (s : List ℕ) → is_digits s ≡ true → split point (unsigned (signed b s)) ≡ s ∷ []
one_piece b s h = ap (split point) (signed_unsigned b s h) ∙ split_last point s (digits_lack point (omega arith) s (all_of_digits s h))

signed_means : (b : Bool) (s : List ℕ) (n : ℕ) → Reads s n → value_of (signed b s) ≡ negated_if b (decimal n 0)
unfolding value_of places
signed_means b s n r = rw (signed_minus b s r.digits, signed_digits b s r.digits, one_piece b s r.digits, r.means)

signed_number : (b : Bool) (s : List ℕ) → is_digits s ≡ true → is_number (signed b s) ≡ true
unfolding is_number
signed_number b s h = ap one_or_two (one_piece b s h) ∙ h

pub coordinate_written : (x : Float) → T (fits binary64 x) → is_whole max_coordinate x ≡ true → Written is_number value_of (coordinate x) x
unfolding coordinate
coordinate_written x t h =
    let n = magnitude_of x in
    let r = numeral_reads n (omega (arith, whole_small max_coordinate x h)) in
    signed_written is_number value_of (negative x) (numeral n) n x r (signed_number (negative x) (numeral n) r.digits) (signed_means (negative x) (numeral n) n r ∙ whole_back x t h)

-- ---- one vertex number

index_means : (s : List ℕ) (n : ℕ) → Reads s (n + 1) → index_of s ≡ n
unfolding index_of
index_means s n r = rw (signed_digits false s r.digits, r.means) (omega arith)

pub corner_written : (n : ℕ) → n + 1 < 10 ^ 10 → Written is_index index_of (numeral (n + 1)) n
corner_written n l =
    let r = numeral_reads (n + 1) l in
    signed_written is_index index_of false (numeral (n + 1)) (n + 1) n r (reads_index (numeral (n + 1)) (n + 1) (omega arith) r) (index_means (numeral (n + 1)) n r)
