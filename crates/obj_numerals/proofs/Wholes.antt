-- Whole doubles, and what the cast makes of a double's magnitude. States: `whole_limit`: of a whole double the magnitude is within the limit; `whole_part`: and the cast gives it; `whole_over`, `whole_test`:
-- what `is_whole` says where the cast gives more than the limit, and where it does not. Assumes nothing.
use Rattle.std.proofs.Common.{◌≡◌, ℕ, ◌+◌, ◌*◌, ◌/◌, ◌%◌, ◌^◌, ◌<◌, ◌≤◌, Bool, true, false, ◌&&◌, eqb, leb, pos, sym, refl, ap, ◌∙◌, ⊎_elim, mul-pos, div-add-mod', arith, eq-eqb, ne_eqb, le-leb, leb-true}
use lib.Ieee.{Float, nan, inf, fin, binary64, up, down, eq, of_int, to_unsigned}
use lib.Ieee.Fits.{down_pos}
use lib.Ieee.Exact.{HasValue}
use lib.Ieee.Back.{round_whole}
use borrow.Author.Tests.{lt-leb}
use Rattle.doubles.specs.Magnitude.{abs}
use Rattle.lists.proofs.Numbers.{same?, both, true≢false}
use Rattle.obj.specs.Whole.{magnitude_of, is_whole}

pub whole_limit : (limit : ℕ) (x : Float) → is_whole limit x ≡ true → magnitude_of x ≤ limit
unfolding is_whole magnitude_of
whole_limit limit nan h = absurd (true≢false (sym h))
whole_limit limit (inf s) h = absurd (true≢false (sym h))
whole_limit limit (fin s m e) h = leb-true (m * up e / down e) limit (both (eqb (m * up e % down e) 0) (leb (m * up e / down e) limit) h).1

-- ---- the cast

pub whole_part : (limit : ℕ) (x : Float) → limit < 2 ^ 53 → is_whole limit x ≡ true → to_unsigned 64 (abs x) ≡ magnitude_of x
unfolding abs to_unsigned magnitude_of is_whole
whole_part limit nan l h = refl
whole_part limit (inf s) l h = absurd (true≢false (sym h))
whole_part limit (fin s m e) l h = omega (arith, leb-true (m * up e / down e) limit (both (eqb (m * up e % down e) 0) (leb (m * up e / down e) limit) h).1)

and_false : (b : Bool) → (b && false) ≡ false
and_false true = refl
and_false false = refl

pub whole_over : (limit : ℕ) (x : Float) → limit < to_unsigned 64 (abs x) → false ≡ is_whole limit x
unfolding abs to_unsigned is_whole
whole_over limit nan l = refl
whole_over limit (inf s) l = refl
whole_over limit (fin s m e) l = sym (rw (lt-leb (m * up e / down e) limit (omega arith)) (and_false (eqb (m * up e % down e) 0)))

-- ---- the magnitude as a double, compared with x

-- K / E is q, and N / D is q with the remainder r
module _ (K N D E q r : ℕ) (p : 0 < E) (whole : K * 1 ≡ q * E) (parts : q * D + r ≡ N) where
  over_both : K * D + r * E ≡ N * E
  over_both = omega (arith, ap (λ (w : ℕ). w * D) whole, ap (λ (w : ℕ). w * E) parts)

  no_rest : r ≡ 0 → K * D ≡ N * E
  no_rest z = omega (arith, over_both, ap (λ (w : ℕ). w * E) z)

  some_rest : (r ≡ 0 → ⊥) → K * D ≡ N * E → ⊥
  some_rest z e = let l : 0 < r * E = mul-pos {m = r} {n = E} (omega arith) p in omega (arith, over_both)

  same_test : eqb (K * D) (N * E) ≡ eqb r 0
  same_test = ⊎_elim (λ z. eq-eqb _ _ (no_rest z) ∙ sym (eq-eqb r 0 z)) (λ z. ne_eqb _ _ (some_rest z) ∙ sym (ne_eqb r 0 z)) (same? r 0)

compared : (limit : ℕ) (x y : Float) → magnitude_of x ≤ limit → HasValue y false (magnitude_of x) 1 → eq y (abs x) ≡ is_whole limit x
unfolding magnitude_of is_whole eq abs
compared limit x nan l v = absurd v
compared limit x (inf t) l v = absurd v
compared limit x (fin true k d) l v = absurd (true≢false v.0)
compared limit nan (fin false k d) l v = refl
compared limit (inf s) (fin false k d) l v = refl
compared limit (fin s m e) (fin false k d) l v =
    rw (same_test (k * up d) (m * up e) (down e) (down d) (m * up e / down e) (m * up e % down e) (down_pos d) v.1 (div-add-mod' (m * up e) (down e)), le-leb (m * up e / down e) limit l)

cut : (limit : ℕ) (x : Float) → limit < 2 ^ 53 → to_unsigned 64 (abs x) ≤ limit → to_unsigned 64 (abs x) ≡ magnitude_of x
unfolding abs to_unsigned magnitude_of
cut limit nan b l = refl
cut limit (inf s) b l = absurd (omega arith)
cut limit (fin s m e) b l = omega arith

pub whole_test : (limit : ℕ) (x : Float) → limit < 2 ^ 53 → to_unsigned 64 (abs x) ≤ limit → eq (of_int binary64 (pos (to_unsigned 64 (abs x)))) (abs x) ≡ is_whole limit x
unfolding of_int
whole_test limit x b l =
    let e = cut limit x b l in
    rw e (compared limit x _ (omega (arith, e)) (round_whole binary64 false (magnitude_of x) (omega (arith, e))))
