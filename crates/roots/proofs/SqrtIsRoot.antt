-- The square root of the library's floats, which is one instruction, is the root as defined. States: `sqrt_is_root`, at the end. Assumes nothing.
-- The library cuts √x far below any digit that a double keeps, and marks by an odd number that it goes on: so it compares with each number halfway as √x does.
use Rattle.std.proofs.Common.{◌≡◌, ℕ, zero, suc, ◌+◌, ◌-◌, ◌*◌, ◌/◌, ◌%◌, ◌^◌, ◌<◌, ◌≤◌, Bool, true, false, cond, T, sym, refl, ap, ◌∙◌, inl, inr, lt_of_not-le, not-le_of_lt, mul-le-mul, mul-le-mul_right, mul-lt-mul_of_pos_right, mul-pos, arith, pow_pos, eqb}
use Prim.Native.Nat.{compare}
use Rattle.std.proofs.lemmas.Bool.{cases_order}
use native.Mathlib.Nat.{div-div-eq-div-mul, div-lt_iff_lt-mul, le-div_iff_mul-le, mul-div_cancel, div-add-mod'}
use lib.IntN.{ℤ}
use lib.Ieee.{Float, Format, prec, low, nan, inf, fin, binary64, up, down, size, nearest, odd, units, round, root_below, root_twice, sqrt, fits}
use lib.Ieee.Fits.{down_pos, round_is}
use lib.Ieee.Nearest.{closest, closest_same, div_same}
use lib.Ieee.Root.{whole_part}
use Rattle.doubles.proofs.Signs.{zero_exp}
use Rattle.roots.specs.Root.{digits, isqrt, root_of, Root}
use Rattle.roots.specs.WholeRoot.{IsRoot, isqrt_law}
use Rattle.roots.specs.Rounding.{sq}
use Rattle.roots.specs.RootIsNearest.{division_exact}

-- numbers in the same order compare alike
alike : (a b c d : ℕ) → (a < b → c < d) → (a ≡ b → c ≡ d) → (b < a → d < c) → compare a b ≡ compare c d
alike a b c d f e g = elim (cases_order a b) [ inl x ↦ grind (arith, e x) | inr (inl x) ↦ grind (arith, f x) | inr (inr x) ↦ grind (arith, g x) ]

-- ---- t is twice the root of M where that is whole, and else the odd number between: it stands to 2 * h as M stands to h * h

record TwiceRoot (M t : ℕ) : Type 0 where
  lt : (h : ℕ) → M < h * h → t < 2 * h
  le : (h : ℕ) → M ≤ h * h → t ≤ 2 * h
  gt : (h : ℕ) → h * h < M → 2 * h < t
  ge : (h : ℕ) → h * h ≤ M → 2 * h ≤ t

of_squares : (a b : ℕ) → a * a < b * b → a < b
of_squares a b h = lt_of_not-le (λ g. not-le_of_lt h (mul-le-mul g g))

twice : (r M : ℕ) (b : Bool) → IsRoot M r → eqb (r * r) M ≡ b → TwiceRoot M (2 * r + cond b 0 1)
twice r M true w e =
    let p : r * r ≡ M = grind arith in
    record {
      lt = λ h x. omega (arith, of_squares r h (omega arith));
      le = λ h x. omega (arith, of_squares r (h + 1) (omega arith));
      gt = λ h x. omega (arith, of_squares h r (omega arith));
      ge = λ h x. omega (arith, of_squares h (r + 1) (omega (arith, w.1)));
    }
twice r M false w e =
    let p : r * r < M = grind (arith, w.0) in
    record {
      lt = λ h x. omega (arith, of_squares r h (omega arith));
      le = λ h x. omega (arith, of_squares r h (omega arith));
      gt = λ h x. omega (arith, of_squares h (r + 1) (omega (arith, w.1)));
      ge = λ h x. omega (arith, of_squares h (r + 1) (omega (arith, w.1)));
    }

root_twice-law : (M : ℕ) → TwiceRoot M (root_twice M)
unfolding root_twice
root_twice-law M = twice (root_below (size M) M) M _ (whole_part M) refl

-- With q the quotient of t by 4 * B * P and R the rest, R stands to half the divisor as √n stands to the number halfway, (q + 1/2) * P.
rest-alike : (n q P B t R : ℕ) → 0 < B → TwiceRoot (n * (4 * (B * B))) t → q * (4 * B * P) + R ≡ t → compare (4 * n) (sq P (2 * q + 1)) ≡ compare (R * 2) (4 * B * P)
rest-alike n q P B t R p w e =
    let h = (2 * q + 1) * P * B in
    alike _ _ _ _
    (λ x. omega (arith, w.lt h (omega (arith, mul-lt-mul_of_pos_right x (mul-pos p p)))))
    (λ x. let y = ap (λ z. z * (B * B)) x in omega (arith, w.le h (omega (arith, y)), w.ge h (omega (arith, y))))
    (λ x. omega (arith, w.gt h (omega (arith, mul-lt-mul_of_pos_right x (mul-pos p p)))))

-- ---- √n, in units of 2 ^ -low, rounded: from t, which is in units finer by 4 * B. U of those make 1

module _ (f : Format) (n B U t : ℕ) (p : 0 < B) (e : U ≡ 4 * B * 2 ^ low f) (w : TwiceRoot (n * (4 * (B * B))) t) where
  p4 : 0 < 4 * B
  p4 = omega arith

  pU : 0 < U
  pU = rw e (mul-pos p4 (pow_pos (low f)))

  whole : t / (4 * B) ≡ isqrt n
  whole =
      let s = isqrt n in
      let r = isqrt_law n in
      let lo : s * (4 * B) ≤ t = omega (arith, w.ge (s * (2 * B)) (omega (arith, mul-le-mul_right (4 * (B * B)) r.0))) in
      let hi : t < (s + 1) * (4 * B) = omega (arith, w.lt ((s + 1) * (2 * B)) (omega (arith, mul-lt-mul_of_pos_right r.1 (mul-pos p4 p)))) in
      omega (arith, (le-div_iff_mul-le p4).1 lo, (div-lt_iff_lt-mul p4).1 hi)

  closest_is : (P : ℕ) → 0 < P → closest (t * 2 ^ low f) (U * P) ≡ nearest (isqrt n / P) (compare (4 * n) (sq P (2 * (isqrt n / P) + 1)))
  closest_is P pP =
      let D = 4 * B * P in
      let d : t / D ≡ isqrt n / P = sym (div-div-eq-div-mul t (4 * B) P) ∙ ap (λ z. z / P) whole in
      let g : isqrt n / P * D + t % D ≡ t = rw (← d) (div-add-mod' t D) in
      closest_same (t * 2 ^ low f) (U * P) t D (mul-pos pU pP) (mul-pos p4 pP) (rw e (omega arith))
      ∙ (λ i. nearest (d i) (sym (rest-alike n (isqrt n / P) P B t (t % D) p w g) i))

  rounded : round f false t U ≡ (let k = size (isqrt n) - prec f in let q = isqrt n / 2 ^ k in units f false (nearest q (compare (4 * n) (sq (2 ^ k) (2 * q + 1)))) k)
  rounded =
      let k = size (isqrt n) - prec f in
      let v : t * 2 ^ low f / U ≡ isqrt n = div_same (t * 2 ^ low f) U t (4 * B) pU p4 (rw e (omega arith)) ∙ whole in
      round_is f false t U
      ∙ ap (λ z. units f false (closest (t * 2 ^ low f) (U * 2 ^ (size z - prec f))) (size z - prec f)) v
      ∙ ap (λ z. units f false z k) (closest_is (2 ^ k) (pow_pos k))

-- ---- x in units of 2 ^ -2148 is whole (`division_exact`), so in those of 2 ^ -4542 it is n * (4 * B * B), B being 2 ^ 1196

shifted : (y d S C V : ℕ) → 0 < d → V ≡ S * C → y * S / d * d ≡ y * S → y * V / d ≡ y * S / d * C
shifted y d S C V p e g =
    let h : y * V ≡ y * S / d * C * d = rw e (omega (arith, ap (λ z. z * C) g)) in
    ap (λ z. z / d) h ∙ mul-div_cancel (y * S / d * C) p

positive : (m : ℕ) (e : ℤ) → T (fits binary64 (fin false m e)) → round binary64 false (root_twice (m * up e * 2 ^ 4542 / down e)) (2 ^ 2272) ≡ root_of (m * up e * 2 ^ 2148 / down e)
unfolding root_of
positive m e t =
    let y = m * up e in
    ap (λ z. round binary64 false (root_twice z) (2 ^ 2272)) (shifted y (down e) (2 ^ 2148) (4 * (2 ^ 1196 * 2 ^ 1196)) (2 ^ 4542) (down_pos e) refl (division_exact m e t))
    ∙ rounded binary64 (y * 2 ^ 2148 / down e) (2 ^ 1196) (2 ^ 2272) (root_twice (y * 2 ^ 2148 / down e * (4 * (2 ^ 1196 * 2 ^ 1196)))) (pow_pos 1196) refl (root_twice-law _)

pub sqrt_is_root : (x : Float) → T (fits binary64 x) → sqrt binary64 x ≡ Root x
unfolding sqrt Root root_of isqrt digits size units odd
sqrt_is_root nan t = refl
sqrt_is_root (inf true) t = refl
sqrt_is_root (inf false) t = refl
sqrt_is_root (fin false zero e) t = ap (λ z. Root (fin false 0 z)) (sym (zero_exp binary64 false e t))
sqrt_is_root (fin true zero e) t = ap (λ z. fin true 0 z) (sym (zero_exp binary64 true e t))
sqrt_is_root (fin true (suc m) e) t = refl
sqrt_is_root (fin false (suc m) e) t = positive (suc m) e t
