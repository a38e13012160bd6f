-- Whole coordinates as doubles. States: `whole_small`: the magnitude is at most the limit; `whole_value`: it is the value; `whole_back`: a double with no fraction up to 10⁹ is its magnitude as a
-- decimal number, negated where its sign is set; `whole_within`: such a double passes the reader's test of limits. Assumes nothing.
use Rattle.std.specs.Prelude.{◌≡◌, refl, Bool, true, false, ℕ, ◌+◌, ◌*◌, ◌/◌, ◌%◌, ◌≤◌, T, eqb, leb, pos, Float}
use Rattle.std.proofs.Common.{sym, ap, ◌∙◌, mul-one, mul_assoc, add-zero, div-add-mod', zero-lt-suc, arith, eqb-true, leb-true}
use Rattle.std.specs.Float.{nan, inf, fin, binary64}
use Rattle.std.specs.Float.Ieee.{up, down, round, le, of_int, of_bits, neg, fits}
use Rattle.std.specs.Float.Ieee.Fits.{round-fits}
use Rattle.std.specs.Float.Ieee.Exact.{HasValue}
use Rattle.std.specs.Float.Ieee.Back.{round_whole, whole_unique}
use Rattle.std.specs.Float.Ieee.Bits.{is_true}
use Rattle.std.specs.Float.Ieee.Order.{le_of_values}
use Rattle.std.specs.Float.Ieee.Positive.{num, den}
use Rattle.lists.proofs.Numbers.{both, true≢false}
use Rattle.doubles.specs.Constants.{10⁹}
use Rattle.doubles.specs.Magnitude.{abs, negative, within_limits}
use Rattle.doubles.proofs.FiniteUnsigned.{finite_unsigned_of_value}
use Rattle.doubles.proofs.Exactly.{div-to}
use Rattle.doubles.proofs.Magnitude.{limit_test}
use Rattle.doubles.proofs.Signs.{neg-round}
use Rattle.obj.specs.Decimal.{decimal, negated_if}
use Rattle.obj.specs.Whole.{magnitude_of, is_whole}
use Rattle.obj.specs.Writer.{max_coordinate}

-- ---- a whole double

pub whole_small : (limit : ℕ) (x : Float) → is_whole limit x ≡ true → magnitude_of x ≤ limit
unfolding is_whole magnitude_of
whole_small limit nan h = absurd (true≢false (sym h))
whole_small limit (inf s) h = absurd (true≢false (sym h))
whole_small limit (fin s m e) h = leb-true (m * up e / down e) limit (both (eqb (m * up e % down e) 0) (leb (m * up e / down e) limit) h).1

-- it has no fraction
pub whole_value : (limit : ℕ) (x : Float) → is_whole limit x ≡ true → HasValue x (negative x) (magnitude_of x) 1
unfolding is_whole magnitude_of negative
whole_value limit nan h = absurd (true≢false (sym h))
whole_value limit (inf s) h = absurd (true≢false (sym h))
whole_value limit (fin s m e) h =
    let r : m * up e % down e ≡ 0 = eqb-true (m * up e % down e) 0 (both (eqb (m * up e % down e) 0) (leb (m * up e / down e) limit) h).0 in
    (refl, mul-one (m * up e) ∙ sym (div-add-mod' (m * up e) (down e)) ∙ ap (λ (w : ℕ). m * up e / down e * down e + w) r ∙ add-zero (m * up e / down e * down e))

-- ---- a number with no places after the point

-- 2⁵³, up to which every whole number is a double
abbrev 2⁵³ : ℕ
2⁵³ = 9007199254740992

decimal_whole : (n : ℕ) → n ≤ 2⁵³ → decimal n 0 ≡ round binary64 false n 1
unfolding decimal of_int
decimal_whole n l =
    let x = round binary64 false n 1 in
    let p = finite_unsigned_of_value x n 1 (round_whole binary64 false n l) in
    div-to binary64 x (of_int binary64 (pos 1)) x p p (round-fits binary64 false n 1) tt (mul_assoc (num x) 1 (den x))

signed_whole : (s : Bool) (n : ℕ) → n ≤ 2⁵³ → negated_if s (decimal n 0) ≡ round binary64 s n 1
signed_whole true n l = ap neg (decimal_whole n l) ∙ neg-round binary64 false n 1
signed_whole false n l = decimal_whole n l

pub whole_back : (x : Float) → T (fits binary64 x) → is_whole max_coordinate x ≡ true → negated_if (negative x) (decimal (magnitude_of x) 0) ≡ x
whole_back x t h =
    let l : magnitude_of x ≤ 2⁵³ = omega (arith, whole_small max_coordinate x h) in
    signed_whole (negative x) (magnitude_of x) l
    ∙ whole_unique binary64 (round binary64 (negative x) (magnitude_of x) 1) x (negative x) (magnitude_of x) (round-fits binary64 (negative x) (magnitude_of x) 1) t
    (round_whole binary64 (negative x) (magnitude_of x) l) (whole_value max_coordinate x h)

-- ---- the reader's limit

abs_value : (x : Float) (s : Bool) (a c : ℕ) → HasValue x s a c → HasValue (abs x) false a c
unfolding abs
abs_value nan s a c v = v
abs_value (inf t) s a c v = v
abs_value (fin t m e) s a c v = (refl, v.1)

limit_value : HasValue 10⁹ false max_coordinate 1
unfolding of_bits
limit_value = (refl, refl)

pub whole_within : (x : Float) → is_whole max_coordinate x ≡ true → within_limits x ≡ true
whole_within x h =
    sym (limit_test x)
    ∙ is_true (le (abs x) 10⁹)
    (le_of_values (abs x) 10⁹ (magnitude_of x) 1 max_coordinate 1 (zero-lt-suc 0) (zero-lt-suc 0) (abs_value x (negative x) (magnitude_of x) 1 (whole_value max_coordinate x h)) limit_value
    (omega (arith, whole_small max_coordinate x h)))
