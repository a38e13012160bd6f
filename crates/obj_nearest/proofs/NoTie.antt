-- States `no_tie`: a number of at most 15 digits divided by a power of ten up to 10 ^ 14 is never halfway between two doubles. In units of 1 / 2 ^ L a tie is 2 * d * 2 ^ L ≡ z * 10 ^ m * 2 ^ k,
-- with z odd. Then d is z at least, and z is 2 ^ 53 - 1 at least; or the odd number z * 5 ^ m is even. Assumes nothing.
use Rattle.std.specs.Prelude.{◌≡◌, refl, ℕ, zero, suc, ◌+◌, ◌-◌, ◌*◌, ◌/◌, ◌%◌, ◌^◌, ◌≤◌, ◌<◌}
use Rattle.std.proofs.Common.{sym, ap, ap₂, ◌∙◌, lt_of_not-le, zero-lt-suc, mul_assoc, pow-suc, mul-le-mul, mul-le-mul_left, arith, pow-add, pow_pos}
use Rattle.std.proofs.Math.Nat.{one-le-pow, eq_of_mul-eq-mul_right}
use Rattle.std.proofs.Math.Decide.{dec_le}
use Rattle.obj_nearest.proofs.RoundedFraction.{NoTie}

odd_product : (x y : ℕ) → x % 2 ≡ 1 → y % 2 ≡ 1 → x * y % 2 ≡ 1
odd_product x y h k =
    let e : x * y ≡ (2 * (x / 2) + 1) * (2 * (y / 2) + 1) = ap₂ (λ (a b : ℕ). a * b) (omega arith) (omega arith) in
    omega arith

odd_five : (m : ℕ) → 5 ^ m % 2 ≡ 1
odd_five zero = refl
odd_five (suc m) = rw (pow-suc 5 m) (odd_product (5 ^ m) 5 (odd_five m) refl)

ten_is : (m : ℕ) → 10 ^ m ≡ 5 ^ m * 2 ^ m
ten_is zero = refl
ten_is (suc m) = let h = ten_is m in rw (pow-suc 10 m, pow-suc 5 m, pow-suc 2 m) (omega arith)

pub no_tie : (d m L k : ℕ) → d < 10 ^ 15 → m ≤ 14 → 14 ≤ L → NoTie (d * 2 ^ L) (10 ^ m) k
no_tie d m L k few short room z odd many tie = either (dec_le (1 + L) (m + k))
  where
    powers : d * 2 ^ (1 + L) ≡ z * 5 ^ m * 2 ^ (m + k)
    powers =
        let e = ten_is m in
        let f : z * (10 ^ m * 2 ^ k) ≡ z * (5 ^ m * 2 ^ m * 2 ^ k) = ap (λ (w : ℕ). z * (w * 2 ^ k)) e in
        rw (pow-add 2 1 L, pow-add 2 m k) (omega arith)

    -- more twos on the right: d is a multiple of z
    right : 1 + L ≤ m + k → ⊥
    right h =
        let t = m + k - (1 + L) in
        let r = z * 5 ^ m in
        let i : 2 ^ (m + k) ≡ 2 ^ t * 2 ^ (1 + L) = ap (λ (w : ℕ). 2 ^ w) (omega arith) ∙ pow-add 2 t (1 + L) in
        let e : r * 2 ^ (m + k) ≡ r * 2 ^ t * 2 ^ (1 + L) = ap (λ (w : ℕ). r * w) i ∙ sym (mul_assoc r (2 ^ t) (2 ^ (1 + L))) in
        let f : d ≡ r * 2 ^ t = eq_of_mul-eq-mul_right (2 ^ (1 + L)) (pow_pos (1 + L)) d (r * 2 ^ t) (powers ∙ e) in
        let g : z * 1 * 1 ≤ r * 2 ^ t = mul-le-mul (mul-le-mul_left z (one-le-pow m 5 (zero-lt-suc 4))) (pow_pos t) in
        let l = many (omega arith) in
        omega arith

    -- more on the left: z * 5 ^ m is even
    left : m + k < 1 + L → ⊥
    left h =
        let t = L - (m + k) in
        let i : 2 ^ (1 + L) ≡ 2 * 2 ^ t * 2 ^ (m + k) = ap (λ (w : ℕ). 2 ^ w) (omega arith) ∙ pow-add 2 (1 + t) (m + k) ∙ ap (λ (w : ℕ). w * 2 ^ (m + k)) (pow-add 2 1 t) in
        let e : d * 2 ^ (1 + L) ≡ d * (2 * 2 ^ t) * 2 ^ (m + k) = ap (λ (w : ℕ). d * w) i ∙ sym (mul_assoc d (2 * 2 ^ t) (2 ^ (m + k))) in
        let f : z * 5 ^ m ≡ d * (2 * 2 ^ t) = eq_of_mul-eq-mul_right (2 ^ (m + k)) (pow_pos (m + k)) (z * 5 ^ m) (d * (2 * 2 ^ t)) (sym powers ∙ e) in
        let g = odd_product z (5 ^ m) odd (odd_five m) in
        omega arith

    either : Dec (1 + L ≤ m + k) → ⊥
    either (yes h) = right h
    either (no h) = left (lt_of_not-le h)
