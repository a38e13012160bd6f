-- What is read of a field. States:
-- `plain_wrong`, `plain_right`: a number without a point; `front_wrong`, `back_wrong`, `parted_right`: with one; `plain_small`, `parted_small`: 15 digits;
-- `empty_number`, `with_minus`, `without_minus`: a number; `index_wrong`, `index_zeros`, `index_right`: an index.
-- Assumes nothing.
use Rattle.std.specs.Prelude.{◌≡◌, refl, Bool, true, false, ◌&&◌, Option, None, Some, MatchOption, List, [], ◌∷◌, ◌++◌, ℕ, ◌+◌, ◌%◌, ◌^◌, ◌≤◌, ◌<◌, eqb, length}
use Rattle.std.proofs.Common.{sym, ap, ◌∙◌, arith, length-append}
use Rattle.std.specs.List.{fold, list_all}
use Rattle.std.proofs.lemmas.List.Sums.{fold-append}
use Rattle.std.proofs.lemmas.List.Folds.{list_all-append}
use Rattle.obj.specs.Text.{minus, point, split, is_filled}
use Rattle.obj.specs.Decimal.{is_digit, is_zero_digit, is_digits, is_index, is_number, has_minus, unsigned, places, digits_of, with_digit, whole_of, one_or_two, length_of_second}
use Rattle.obj_lines.specs.declared.decimal.Decimal.{Decimal}
use Rattle.obj_lines.specs.Parts.{StandsAround, KeepsDigits, IsUnsigned, IsNumber, IsIndex}
use Rattle.obj_lines.proofs.Values.{and_false, kept, all_kept, small}
use Rattle.obj_lines.proofs.Points.{two_pieces, second_length, digits_are, parted_digits}

-- the count and the whole number of digits alone
counted : (s : List ℕ) (n : Decimal) → is_digits s ≡ true → n.whole ≡ fold with_digit 0 s % 2 ^ 64 → n.digits ≡ length s → KeepsDigits s n
unfolding whole_of
counted s n h w d =
    let same = all_kept s (digits_are s h).1 in
    record { whole = w ∙ ap (λ (t : List ℕ). fold with_digit 0 t % 2 ^ 64) (sym same); digits = d ∙ ap length (sym same) }

pub filled : (s : List ℕ) → is_digits s ≡ true → 0 < length s
filled s h = go s (digits_are s h).0
  where
    go : (s : List ℕ) → is_filled s ≡ true → 0 < length s
    go [] e = cc
    go (c ∷ s) e = omega arith

pub plain_small : (s : List ℕ) (w : ℕ) → is_digits s ≡ true → w ≡ fold with_digit 0 s % 2 ^ 64 → length s ≤ 15 → w < 10 ^ 15
plain_small s w h e l = omega (arith, e, small s (length s) (digits_are s h).1 refl l)

-- ---- without a point

module _ (t : List ℕ) (one : split point t ≡ t ∷ []) where
  pub plain_wrong : is_digits t ≡ false → one_or_two (split point t) ≡ false
  plain_wrong h = ap one_or_two one ∙ h

  pub plain_right : (n : Decimal) → is_digits t ≡ true → n.whole ≡ fold with_digit 0 t % 2 ^ 64 → n.digits ≡ length t → n.places ≡ 0 → IsUnsigned t n
  plain_right n h w d p = record { right = ap one_or_two one ∙ h; counts = counted t n h w d; places = p ∙ ap length_of_second (sym one) }

-- ---- with a point

module _ (t f r : List ℕ) (around : StandsAround t f r) where
  form : one_or_two (split point t) ≡ (is_digits f && is_digits r)
  form = ap one_or_two around.pieces ∙ two_pieces f r

  pub front_wrong : is_digits f ≡ false → one_or_two (split point t) ≡ false
  front_wrong h = form ∙ rw h

  pub back_wrong : is_digits r ≡ false → one_or_two (split point t) ≡ false
  back_wrong h = form ∙ ap (λ (b : Bool). is_digits f && b) h ∙ and_false (is_digits f)

  -- the digits behind those before the point
  joined : (w v : ℕ) → w ≡ fold with_digit 0 f % 2 ^ 64 → v ≡ fold with_digit w r % 2 ^ 64 → v ≡ fold with_digit 0 (f ++ r) % 2 ^ 64
  joined w v p q = q ∙ kept w (fold with_digit 0 f) r (omega (arith, p)) ∙ ap (λ (n : ℕ). n % 2 ^ 64) (sym (fold-append with_digit 0 f r))

  all : is_digits f ≡ true → is_digits r ≡ true → list_all is_digit (f ++ r) ≡ true
  all h k = list_all-append is_digit f r ∙ rw ((digits_are f h).1, (digits_are r k).1)

  pub parted_small : (w v : ℕ) → is_digits f ≡ true → is_digits r ≡ true → w ≡ fold with_digit 0 f % 2 ^ 64 → v ≡ fold with_digit w r % 2 ^ 64
      → length f + length r ≤ 15 → v < 10 ^ 15
  parted_small w v h k p q l = omega (arith, joined w v p q, small (f ++ r) (length f + length r) (all h k) (length-append f r) l)

  pub parted_right : (n : Decimal) (w : ℕ) → is_digits f ≡ true → is_digits r ≡ true → w ≡ fold with_digit 0 f % 2 ^ 64 → n.whole ≡ fold with_digit w r % 2 ^ 64
      → n.digits ≡ length f + length r → n.places ≡ length r → IsUnsigned t n
  unfolding whole_of
  parted_right n w h k p q d e =
      let same : digits_of t ≡ f ++ r = ap digits_of around.whole ∙ parted_digits f r (digits_are f h).1 (digits_are r k).1 in
      record {
        right = form ∙ rw (h, k);
        counts = record {
          whole = joined w n.whole p q ∙ ap (λ (s : List ℕ). fold with_digit 0 s % 2 ^ 64) (sym same);
          digits = d ∙ sym (length-append f r) ∙ ap length (sym same);
        };
        places = e ∙ sym (second_length f r k) ∙ ap length_of_second (sym around.pieces);
      }

-- ---- an index

module _ (s : List ℕ) where
  pub index_wrong : is_digits s ≡ false → is_index s ≡ false
  unfolding is_index
  index_wrong h = rw h

  pub index_zeros : list_all is_zero_digit s ≡ true → is_index s ≡ false
  unfolding is_index
  index_zeros h = rw h (and_false (is_digits s))

  pub index_right : (n : Decimal) → is_digits s ≡ true → list_all is_zero_digit s ≡ false → n.whole ≡ fold with_digit 0 s % 2 ^ 64 → n.digits ≡ length s → IsIndex s n
  unfolding is_index
  index_right n h z w d = record { right = rw (h, z); counts = counted s n h w d }

-- ---- a number

signed : (s u : List ℕ) (b : Bool) (o : Option Decimal) → unsigned s ≡ u → digits_of s ≡ digits_of u → has_minus s ≡ b
    → MatchOption o (one_or_two (split point u) ≡ false) (λ n. IsUnsigned u n × (n.negative ≡ b)) → MatchOption o (is_number s ≡ false) (IsNumber s)
unfolding is_number places
signed s u b None from same sign h = ap (λ (t : List ℕ). one_or_two (split point t)) from ∙ h
signed s u b (Some n) from same sign h =
    let c = h.0.counts in
    record {
      right = ap (λ (t : List ℕ). one_or_two (split point t)) from ∙ h.0.right;
      counts = record { whole = c.whole ∙ ap (λ (t : List ℕ). whole_of t % 2 ^ 64) (sym same); digits = c.digits ∙ ap length (sym same) };
      negative = h.1 ∙ sym sign;
      places = h.0.places ∙ ap (λ (t : List ℕ). length_of_second (split point t)) (sym from);
    }

pub empty_number : (s : List ℕ) → length s ≡ 0 → is_number s ≡ false
unfolding is_number split is_digits
empty_number [] h = refl
empty_number (c ∷ s) h = absurd (omega arith)

pub with_minus : (s r : List ℕ) (c : ℕ) (o : Option Decimal) → s ≡ c ∷ r → c ≡ minus
    → MatchOption o (one_or_two (split point r) ≡ false) (λ n. IsUnsigned r n × (n.negative ≡ true)) → MatchOption o (is_number s ≡ false) (IsNumber s)
unfolding digits_of
with_minus s r c o e m h =
    let z : s ≡ minus ∷ r = e ∙ ap (λ (b : ℕ). b ∷ r) m in
    signed s r true o (ap unsigned z) (ap digits_of z) (ap has_minus z) h

pub without_minus : (s r : List ℕ) (c : ℕ) (o : Option Decimal) → s ≡ c ∷ r → eqb c minus ≡ false
    → MatchOption o (one_or_two (split point s) ≡ false) (λ n. IsUnsigned s n × (n.negative ≡ false)) → MatchOption o (is_number s ≡ false) (IsNumber s)
without_minus s r c o e m h = signed s s false o (ap unsigned e ∙ rw m (sym e)) refl (ap has_minus e ∙ m) h
