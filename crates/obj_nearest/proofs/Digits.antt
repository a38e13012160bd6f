-- The digits of a number. States: `whole_below`: l digits are a whole number below 10 ^ l; `places_fewer`: fewer digits stand after the point than there are in all. Assumes nothing.
use Rattle.std.specs.Prelude.{◌≡◌, refl, true, List, [], ◌∷◌, ℕ, ◌^◌, ◌<◌, length, eqb}
use Rattle.std.specs.List.{fold, filter, list_all, join_with_byte}
use Rattle.std.proofs.Common.{subst, le_refl, zero-lt-suc, arith, rules, length-append, eqb-true}
use Rattle.std.proofs.lemmas.Bool.{false≢true, and_parts, cond_both}
use Rattle.std.proofs.lemmas.List.Elements.{filter-append, filter_passes}
use Rattle.std.proofs.lemmas.List.Splits.{join_with_byte-slice_split}
use Rattle.std.proofs.lemmas.List.Sums.{list_all-from_AllPass}
use Rattle.std.proofs.lemmas.Str.Parse.{IsNumeralModel, numerals_by_fold, digits_value_short}
use Rattle.obj.specs.Text.{minus, point, split}
use Rattle.obj.specs.Decimal.{is_digit, is_digits, unsigned, one_or_two, is_number, digits_of, with_digit, whole_of, length_of_second, places}

-- ---- l digits are below 10 ^ l

numerals : IsNumeralModel (λ ds. list_all is_digit ds ≡ true) (fold with_digit 0)
numerals = numerals_by_fold (λ ds. list_all is_digit ds ≡ true) (search rules) (fold with_digit) (search rules)

pub whole_below : (s : List ℕ) → whole_of (digits_of s) < 10 ^ length (digits_of s)
unfolding whole_of digits_of
whole_below s =
    let ds = filter is_digit s in
    digits_value_short numerals ds (length ds) (list_all-from_AllPass is_digit ds (filter_passes is_digit s)) (le_refl (length ds))

-- ---- a number has a digit before the point. Neither a minus nor the point is a digit

unsigned_digits : (s : List ℕ) → filter is_digit s ≡ filter is_digit (unsigned s)
unsigned_digits [] = refl
unsigned_digits (c ∷ s) = cond_both (eqb c minus) s (c ∷ s) (λ t. filter is_digit (c ∷ s) ≡ filter is_digit t) (λ e. rw (eqb-true c minus e)) (λ e. refl)

kept : (s : List ℕ) → list_all is_digit s ≡ true → filter is_digit s ≡ s
kept [] e = refl
kept (c ∷ s) e = let w = and_parts (is_digit c) (list_all is_digit s) e in rw (w.0, kept s w.1)

-- one or more digits, all of them kept
digits_kept : (w : List ℕ) → is_digits w ≡ true → (filter is_digit w ≡ w) × (0 < length w)
unfolding is_digits
digits_kept [] e = absurd (false≢true e)
digits_kept (c ∷ s) e = (kept (c ∷ s) e, zero-lt-suc (length s))

pub places_fewer : (s : List ℕ) → is_number s ≡ true → places s < length (digits_of s)
unfolding is_number places digits_of split
places_fewer s e =
    rw (unsigned_digits s)
    (subst (λ (t : List ℕ). places s < length (filter is_digit t)) (join_with_byte-slice_split point (unsigned s)) (second_shorter (split point (unsigned s)) e))
  where
    second_shorter : (ps : List (List ℕ)) → one_or_two ps ≡ true → length_of_second ps < length (filter is_digit (join_with_byte point ps))
    second_shorter [] o = absurd (false≢true o)
    second_shorter (w ∷ []) o = let d = digits_kept w o in rw d.0 d.1
    second_shorter (w ∷ p ∷ []) o =
        let t = and_parts (is_digits w) (is_digits p) o in
        let a = digits_kept w t.0 in
        let b = digits_kept p t.1 in
        rw (filter-append is_digit w (point ∷ p), a.0, b.0) (omega (arith, length-append w p, a.1))
    second_shorter (w ∷ p ∷ q ∷ ps) o = absurd (false≢true o)
