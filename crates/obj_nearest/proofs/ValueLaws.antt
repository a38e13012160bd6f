-- The value of a number of at most 15 digits is the double nearest what its digits say. States: `value_nearest`: the value is `Nearest`; `coordinates_nearest`: so is that of each number of a
-- right line that begins with v, where 22 does not refuse it. Assumes nothing.
use Rattle.std.specs.Prelude.{◌≡◌, true, false, ◌&&◌, List, [], ◌∷◌, ℕ, length}
use Rattle.std.specs.List.{All, AllByRecursion}
use Rattle.std.proofs.Common.{⊎_elim, lt_of_lt_of_le, zero-lt-suc, arith, leb-true}
use Rattle.std.proofs.Math.Nat.{pow-le-pow_right}
use Rattle.std.proofs.lemmas.Bool.{false≢true, and_parts, or_cases}
use Rattle.std.proofs.lemmas.List.Elements.{All-from_recursion}
use Rattle.obj.specs.Text.{letter_v}
use Rattle.obj.specs.Decimal.{has_minus, is_number, digits_of, max_digits, few_digits, whole_of, places, value_of}
use Rattle.obj.specs.Reader.{three, is_right, is_short}
use Rattle.obj_nearest.specs.Nearest.{NearestValue}
use Rattle.obj_nearest.proofs.Digits.{whole_below, places_fewer}
use Rattle.obj_nearest.proofs.NearestLaws.{nearest_decimal}

pub value_nearest : (f : List ℕ) → is_number f ≡ true → few_digits f ≡ true → NearestValue f
unfolding value_of few_digits
value_nearest f h l =
    let a = leb-true (length (digits_of f)) max_digits l in
    let b = places_fewer f h in
    nearest_decimal (has_minus f) (whole_of (digits_of f)) (places f) (lt_of_lt_of_le (whole_below f) (pow-le-pow_right (zero-lt-suc 9) a)) (omega arith)

three_nearest : (fs : List (List ℕ)) → three is_number fs ≡ true → three few_digits fs ≡ true → AllByRecursion NearestValue fs
three_nearest [] e h = absurd (false≢true e)
three_nearest (a ∷ []) e h = absurd (false≢true e)
three_nearest (a ∷ b ∷ []) e h = absurd (false≢true e)
three_nearest (a ∷ b ∷ c ∷ []) e h =
    let p = and_parts (is_number a && is_number b) (is_number c) e in
    let q = and_parts (few_digits a && few_digits b) (few_digits c) h in
    let r = and_parts (is_number a) (is_number b) p.0 in
    let s = and_parts (few_digits a) (few_digits b) q.0 in
    (value_nearest a r.0 s.0, (value_nearest b r.1 s.1, (value_nearest c p.1 q.1, tt)))
three_nearest (a ∷ b ∷ c ∷ d ∷ fs) e h = absurd (false≢true e)

pub coordinates_nearest : (fs : List (List ℕ)) → is_right ((letter_v ∷ []) ∷ fs) ≡ true → is_short ((letter_v ∷ []) ∷ fs) ≡ true → All NearestValue fs
unfolding is_right is_short
coordinates_nearest fs e h =
    All-from_recursion NearestValue fs (three_nearest fs (⊎_elim (λ p. p) (λ p. absurd (false≢true p)) (or_cases (three is_number fs) false e)) h)
