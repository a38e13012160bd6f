-- A text by the place of its first point. States:
-- `no_point`, `at_point`: its pieces, where it has none and where it has one; `two_pieces`, `second_length`: the form and the places of what stands before and behind it;
-- `parted_digits`: its digits.
-- Assumes nothing.
use Rattle.std.specs.Prelude.{◌≡◌, refl, Bool, true, false, not, ◌&&◌, Option, None, Some, List, [], ◌∷◌, ◌++◌, ℕ, ◌+◌, ◌-◌, ◌<◌, eqb, length, take, drop}
use Rattle.std.proofs.Common.{sym, ap, ap₂, ◌∙◌, arith, eqb-true, length-take, get_or-take, take-append-drop}
use Rattle.std.specs.List.{list_all, position, position_or_len, slice_split, All}
use Rattle.std.specs.Option.{unwrap_or}
use Rattle.std.proofs.lemmas.List.{drop_more, get_or_default, take_rest}
use Rattle.std.proofs.lemmas.Bool.{not-true, false≢true}
use Rattle.std.proofs.lemmas.List.Splits.{slice_split_at, slice_split_none, length-slice_split}
use Rattle.std.proofs.lemmas.List.Sums.{prefix_len_passes}
use Rattle.std.proofs.lemmas.List.Elements.{filter-append}
use Rattle.std.proofs.lemmas.List.Quantifiers.{position-Some}
use Rattle.lists.proofs.Numbers.{both}
use Rattle.obj.specs.Text.{point, split, is_filled}
use Rattle.obj.specs.Decimal.{is_digit, is_digits, digits_of, one_or_two, length_of_second}
use Rattle.obj_lines.specs.Parts.{StandsAround}
use Rattle.obj_lines.proofs.FirstField.{at_or_len}
use Rattle.obj_lines.proofs.Values.{and_false, stops, all_kept}

abbrev pub is_point : ℕ → Bool
is_point b = eqb b point

no_byte : (t : List ℕ) → position is_point t ≡ None → All (λ b. is_point b ≡ false) t
no_byte t e k d l =
    let end : position_or_len is_point t ≡ length t = sym (at_or_len is_point t) ∙ ap (λ (o : Option ℕ). unwrap_or o (length t)) e in
    not-true _ (prefix_len_passes (λ b. not (is_point b)) t k d (omega (arith, end)))

pub no_point : (t : List ℕ) → position is_point t ≡ None → split point t ≡ t ∷ []
unfolding split
no_point t e = slice_split_none is_point t (no_byte t e)

-- a text with a point at i
pub whole_text : (t : List ℕ) (i : ℕ) → position is_point t ≡ Some i → t ≡ take i t ++ point ∷ drop (i + 1) t
whole_text t i e =
    let p = position-Some is_point t i 0 e in
    sym (take-append-drop i t) ∙ ap (λ (s : List ℕ). take i t ++ s) (drop_more t i 0 p.0 ∙ ap (λ (b : ℕ). b ∷ drop (i + 1) t) (eqb-true _ point p.1))

pub at_point : (t : List ℕ) (i : ℕ) → position is_point t ≡ Some i → split point t ≡ take i t ∷ split point (drop (i + 1) t)
unfolding split
at_point t i e =
    let p = position-Some is_point t i 0 e in
    let before : All (λ b. is_point b ≡ false) (take i t) = λ k d l.
    let j : k < i = omega (arith, length-take i t) in
    ap is_point (get_or-take i t k d j ∙ get_or_default t k d 0 (omega (arith, p.0))) ∙ p.2 k j in
    ap (slice_split is_point) (whole_text t i e) ∙ slice_split_at is_point (take i t) point (drop (i + 1) t) before refl

pub stands_around : (t f r : List ℕ) (i : ℕ) → position is_point t ≡ Some i → f ≡ take i t → r ≡ take (length t - (i + 1)) (drop (i + 1) t) → StandsAround t f r
stands_around t f r i e p q =
    let back : r ≡ drop (i + 1) t = q ∙ take_rest t (i + 1) in
    record {
      pieces = at_point t i e ∙ ap₂ (λ (a b : List ℕ). a ∷ split point b) (sym p) (sym back);
      whole = whole_text t i e ∙ ap₂ (λ (a b : List ℕ). a ++ point ∷ b) (sym p) (sym back);
    }

-- ---- one piece of digits, or two

-- digits and a point are none
point_stops : (s : List ℕ) (j : ℕ) → position is_point s ≡ Some j → is_digits s ≡ false
point_stops s j e =
    let p = position-Some is_point s j 0 e in
    stops s j p.0 (ap is_digit (eqb-true _ point p.1))

-- three pieces and more
many : (w p : List ℕ) (ps : List (List ℕ)) → 0 < length ps → one_or_two (w ∷ p ∷ ps) ≡ false
many w p [] l = absurd (omega arith)
many w p (q ∷ ps) l = refl

some_piece : (s : List ℕ) → 0 < length (split point s)
unfolding split
some_piece s = omega (arith, length-slice_split is_point s)

pub two_pieces : (w s : List ℕ) → one_or_two (w ∷ split point s) ≡ (is_digits w && is_digits s)
two_pieces w s = go (position is_point s) refl
  where
    go : (o : Option ℕ) → position is_point s ≡ o → one_or_two (w ∷ split point s) ≡ (is_digits w && is_digits s)
    go None e = rw (no_point s e)
    go (Some j) e =
        ap (λ (ps : List (List ℕ)). one_or_two (w ∷ ps)) (at_point s j e)
        ∙ many w (take j s) (split point (drop (j + 1) s)) (some_piece (drop (j + 1) s))
        ∙ sym (ap (λ (b : Bool). is_digits w && b) (point_stops s j e) ∙ and_false (is_digits w))

pub second_length : (w s : List ℕ) → is_digits s ≡ true → length_of_second (w ∷ split point s) ≡ length s
second_length w s h = go (position is_point s) refl
  where
    go : (o : Option ℕ) → position is_point s ≡ o → length_of_second (w ∷ split point s) ≡ length s
    go None e = rw (no_point s e)
    go (Some j) e = absurd (false≢true (sym (point_stops s j e) ∙ h))

-- ---- digits

pub digits_are : (s : List ℕ) → is_digits s ≡ true → (is_filled s ≡ true) × (list_all is_digit s ≡ true)
unfolding is_digits
digits_are s h = both (is_filled s) (list_all is_digit s) h

pub parted_digits : (s r : List ℕ) → list_all is_digit s ≡ true → list_all is_digit r ≡ true → digits_of (s ++ point ∷ r) ≡ s ++ r
unfolding digits_of
parted_digits s r h k = filter-append is_digit s (point ∷ r) ∙ ap₂ (λ (a b : List ℕ). a ++ b) (all_kept s h) (all_kept r k)
