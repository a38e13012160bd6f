-- Finite values with a clear sign bit, +0 included, each as a fraction `num` / `den`: `le` is the fractions' order, and ⊕ ⊗ ⊘ keep it, in either format.
-- `lib.Ieee.Positive` has the same above zero, for the product and the difference. Assumes nothing.
use mathlib.Core.Path.{◌≡◌, refl}
use mathlib.Core.Logic.{◌⊎◌, inl, inr}
use Prim.Native.Nat.{ℕ, zero, suc, ◌+◌, ◌-◌, ◌*◌, ◌/◌, ◌%◌, ◌^◌, ◌≤◌, ◌<◌, compare}
use native.Mathlib.Nat.{le_trans, le_of_eq, le_of_lt, add-mul, mul_comm, mul_assoc, mul_left_comm, mul-le-mul_right, mul-le-mul, mul-pos, mul-mul-mul_comm, add-le-add}
use native.Mathlib.Omega.{arith}
use mathlib.Core.Bool.{Bool, true, false, not, ◌&&◌, ◌||◌, cond, true≢false}
use lib.Dec.{T, ltb, eqb, eqb→eq, ltb→lt}
use lib.Ieee.{Float, nan, inf, fin, Format, prec, emax, low, up, down, nearest, size, odd, units, round, add, mul, div, lt, le}
use lib.Ieee.Fits.{round_is, and_l}
use lib.Ieee.Exact.{HasValue, odd_sign}
use lib.Ieee.Order.{le_of_values, round_mono}
use lib.Ieee.Positive.{num, den, den_pos, positive, value_pos, own_value, through}
use Rattle.doubles.specs.Magnitude.{abs, finite_unsigned}

pub own : (x : Float) → T (finite_unsigned x) → HasValue x false (num x) (den x)
own nan p = absurd p
own (inf s) p = absurd p
own (fin true m e) p = absurd p
own (fin false m e) p = (refl, refl)

pub finite_unsigned_of_value : (x : Float) (a c : ℕ) → HasValue x false a c → T (finite_unsigned x)
finite_unsigned_of_value nan a c h = absurd h
finite_unsigned_of_value (inf s) a c h = absurd h
finite_unsigned_of_value (fin true m e) a c h = absurd (true≢false h.0)
finite_unsigned_of_value (fin false m e) a c h = tt

pub finite_unsigned_of_positive : (x : Float) → T (positive x) → T (finite_unsigned x)
finite_unsigned_of_positive nan p = absurd p
finite_unsigned_of_positive (inf s) p = absurd p
finite_unsigned_of_positive (fin true m e) p = absurd p
finite_unsigned_of_positive (fin false m e) p = tt

-- ---- the order, as one of fractions
or_split : (a b : Bool) → T (a || b) → T a ⊎ T b
or_split true b t = inl tt
or_split false b t = inr t

lt-or-eq : (a b : ℕ) → T (ltb a b || (eqb a b && true)) → a ≤ b
lt-or-eq a b t = elim (or_split (ltb a b) (eqb a b && true) t) [ inl u ↦ le_of_lt (ltb→lt a b u) | inr u ↦ le_of_eq (eqb→eq a b (and_l (eqb a b) true u)) ]

pub le→cross : (x y : Float) → T (finite_unsigned x) → T (finite_unsigned y) → T (le x y) → num x * den y ≤ num y * den x
unfolding le
le→cross nan y p q h = absurd p
le→cross (inf s) y p q h = absurd p
le→cross (fin true m e) y p q h = absurd p
le→cross (fin false m e) nan p q h = absurd q
le→cross (fin false m e) (inf t) p q h = absurd q
le→cross (fin false m e) (fin true n d) p q h = absurd q
le→cross (fin false m e) (fin false n d) p q h = lt-or-eq (m * up e * down d) (n * up d * down e) h

pub lt→cross : (x y : Float) → T (finite_unsigned x) → T (finite_unsigned y) → T (lt x y) → num x * den y < num y * den x
unfolding lt
lt→cross nan y p q h = absurd p
lt→cross (inf s) y p q h = absurd p
lt→cross (fin true m e) y p q h = absurd p
lt→cross (fin false m e) nan p q h = absurd q
lt→cross (fin false m e) (inf t) p q h = absurd q
lt→cross (fin false m e) (fin true n d) p q h = absurd q
lt→cross (fin false m e) (fin false n d) p q h = ltb→lt (m * up e * down d) (n * up d * down e) h

pub cross→le : (x y : Float) → T (finite_unsigned x) → T (finite_unsigned y) → num x * den y ≤ num y * den x → T (le x y)
cross→le x y p q h = le_of_values x y (num x) (den x) (num y) (den y) (den_pos x) (den_pos y) (own x p) (own y q) h

pub le_trans_finite_unsigned : (x y z : Float) → T (finite_unsigned x) → T (finite_unsigned y) → T (finite_unsigned z) → T (le x y) → T (le y z) → T (le x z)
le_trans_finite_unsigned x y z p q r h k = cross→le x z p r (through (num x) (num y) (num z) (den x) (den y) (den z) (den_pos y) (le→cross x y p q h) (le→cross y z q r k))

-- ---- what `round` gives for a fraction that is not negative: finite where some finite value is no less
not_under : (hi : Float) → T (finite_unsigned hi) → T (le (inf false) hi) → ⊥
unfolding le
not_under nan p h = p
not_under (inf s) p h = p
not_under (fin true m e) p h = p
not_under (fin false m e) p h = h

units_finite_unsigned : (f : Format) (q k : ℕ) (hi : Float) → T (finite_unsigned hi) → T (le (units f false q k) hi) → T (finite_unsigned (units f false q k))
unfolding units
units_finite_unsigned f q k hi p = go (ltb (q * 2 ^ k) (2 ^ (low f + suc (emax f))))
  where
    go : (b : Bool) → T (le (cond b (odd (suc (prec f)) false q k (low f)) (inf false)) hi) → T (finite_unsigned (cond b (odd (suc (prec f)) false q k (low f)) (inf false)))
    go true h = finite_unsigned_of_value (odd (suc (prec f)) false q k (low f)) (q * 2 ^ k) (2 ^ low f) (odd_sign (suc (prec f)) false q k (low f))
    go false h = absurd (not_under hi p h)

pub round-finite_unsigned : (f : Format) (a c : ℕ) (hi : Float) → T (finite_unsigned hi) → T (le (round f false a c) hi) → T (finite_unsigned (round f false a c))
round-finite_unsigned f a c hi p h =
    let n = a * 2 ^ low f in
    let k = size (n / c) - prec f in
    let u = c * 2 ^ k in
    rw (round_is f false a c) (units_finite_unsigned f (nearest (n / u) (compare (n % u * 2) u)) k hi p (rw (round_is f false a c) at h))

-- ---- the operations, as `round` of a fraction
pub add_is : (f : Format) (x y : Float) → T (finite_unsigned x) → T (finite_unsigned y) → add f x y ≡ round f false (num x * den y + num y * den x) (den x * den y)
unfolding add
add_is f nan y p q = absurd p
add_is f (inf s) y p q = absurd p
add_is f (fin true m e) y p q = absurd p
add_is f (fin false m e) nan p q = absurd q
add_is f (fin false m e) (inf t) p q = absurd q
add_is f (fin false m e) (fin true n d) p q = absurd q
add_is f (fin false m e) (fin false n d) p q = refl

pub mul_is : (f : Format) (x y : Float) → T (finite_unsigned x) → T (finite_unsigned y) → mul f x y ≡ round f false (num x * num y) (den x * den y)
unfolding mul
mul_is f nan y p q = absurd p
mul_is f (inf s) y p q = absurd p
mul_is f (fin true m e) y p q = absurd p
mul_is f (fin false m e) nan p q = absurd q
mul_is f (fin false m e) (inf t) p q = absurd q
mul_is f (fin false m e) (fin true n d) p q = absurd q
mul_is f (fin false m e) (fin false n d) p q = refl

not-zero : (n : ℕ) (b : Bool) → 0 < n → (T b → n ≡ 0) → T (not b)
not-zero n true h k = let e : n ≡ 0 = k tt in absurd (omega arith)
not-zero n false h k = tt

pub div_is : (f : Format) (x y : Float) → T (finite_unsigned x) → T (positive y) → div f x y ≡ round f false (num x * den y) (num y * den x)
unfolding div
div_is f nan y p q = absurd p
div_is f (inf s) y p q = absurd p
div_is f (fin true m e) y p q = absurd p
div_is f (fin false m e) nan p q = absurd q
div_is f (fin false m e) (inf t) p q = absurd q
div_is f (fin false m e) (fin true n d) p q = absurd q
div_is f (fin false m e) (fin false n d) p q = go (eqb n 0) (not-zero n (eqb n 0) (ltb→lt 0 n q) (eqb→eq n 0))
  where
    go : (b : Bool) → T (not b) → cond b (cond (eqb m 0) nan (inf false)) (round f false (m * up e * down d) (n * up d * down e)) ≡ round f false (m * up e * down d) (n * up d * down e)
    go true t = absurd t
    go false t = refl

-- ---- they keep the order
sums : (a p b q a' p' b' q' : ℕ) → a * p' ≤ a' * p → b * q' ≤ b' * q → (a * q + b * p) * (p' * q') ≤ (a' * q' + b' * p') * (p * q)
sums a p b q a' p' b' q' h k =
    let x : a * q * (p' * q') ≤ a' * q' * (p * q) = simp (mul_assoc, mul_comm, mul_left_comm) (simp (mul_assoc, mul_comm, mul_left_comm) at (mul-le-mul_right (q * q') h)) in
    let y : b * p * (p' * q') ≤ b' * p' * (p * q) = simp (mul_assoc, mul_comm, mul_left_comm) (simp (mul_assoc, mul_comm, mul_left_comm) at (mul-le-mul_right (p * p') k)) in
    simp add-mul (add-le-add x y)

pub add_mono : (f : Format) (x x' y y' : Float) → T (finite_unsigned x) → T (finite_unsigned x') → T (finite_unsigned y) → T (finite_unsigned y') → T (le x x') → T (le y y') → T (le (add f x y) (add f x' y'))
add_mono f x x' y y' p p' q q' h k =
    rw (add_is f x y p q, add_is f x' y' p' q')
    (round_mono f (num x * den y + num y * den x) (den x * den y) (num x' * den y' + num y' * den x') (den x' * den y') (mul-pos (den_pos x) (den_pos y)) (mul-pos (den_pos x') (den_pos y'))
    (sums (num x) (den x) (num y) (den y) (num x') (den x') (num y') (den y') (le→cross x x' p p' h) (le→cross y y' q q' k)))

pub mul_mono : (f : Format) (x x' y y' : Float) → T (finite_unsigned x) → T (finite_unsigned x') → T (finite_unsigned y) → T (finite_unsigned y') → T (le x x') → T (le y y') → T (le (mul f x y) (mul f x' y'))
mul_mono f x x' y y' p p' q q' h k =
    rw (mul_is f x y p q, mul_is f x' y' p' q')
    (round_mono f (num x * num y) (den x * den y) (num x' * num y') (den x' * den y') (mul-pos (den_pos x) (den_pos y)) (mul-pos (den_pos x') (den_pos y'))
    (le_trans (le_of_eq (mul-mul-mul_comm (num x) (num y) (den x') (den y')))
    (le_trans (mul-le-mul (le→cross x x' p p' h) (le→cross y y' q q' k)) (le_of_eq (mul-mul-mul_comm (num x') (den x) (num y') (den y))))))

quotients : (a p b q a' p' b' q' : ℕ) → a * p' ≤ a' * p → b' * q ≤ b * q' → (a * q) * (b' * p') ≤ (a' * q') * (b * p)
quotients a p b q a' p' b' q' h k = simp (mul_assoc, mul_comm, mul_left_comm) (simp (mul_assoc, mul_comm, mul_left_comm) at (mul-le-mul h k))

pub num_pos : (x : Float) → T (positive x) → 0 < num x
num_pos x p = value_pos x (num x) (den x) p (den_pos x) (own_value x p)

-- x / y grows with x and shrinks as y grows
pub div_mono : (f : Format) (x x' y y' : Float) → T (finite_unsigned x) → T (finite_unsigned x') → T (positive y) → T (positive y') → T (le x x') → T (le y' y) → T (le (div f x y) (div f x' y'))
div_mono f x x' y y' p p' q q' h k =
    rw (div_is f x y p q, div_is f x' y' p' q')
    (round_mono f (num x * den y) (num y * den x) (num x' * den y') (num y' * den x') (mul-pos (num_pos y q) (den_pos x)) (mul-pos (num_pos y' q') (den_pos x'))
    (quotients (num x) (den x) (num y) (den y) (num x') (den x') (num y') (den y') (le→cross x x' p p' h) (le→cross y' y (finite_unsigned_of_positive y' q') (finite_unsigned_of_positive y q) k)))

-- ---- |x ⊖ y| is `round` of the distance
abs_odd : (d : ℕ) (s : Bool) (q k l : ℕ) → abs (odd d s q k l) ≡ odd d false q k l
unfolding odd abs
abs_odd d s zero k l = refl
abs_odd d s (suc q) k l = refl

abs_units : (f : Format) (s : Bool) (q k : ℕ) → abs (units f s q k) ≡ units f false q k
unfolding units
abs_units f s q k = go (ltb (q * 2 ^ k) (2 ^ (low f + suc (emax f))))
  where
    go : (b : Bool) → abs (cond b (odd (suc (prec f)) s q k (low f)) (inf s)) ≡ cond b (odd (suc (prec f)) false q k (low f)) (inf false)
    go true = abs_odd (suc (prec f)) s q k (low f)
    go false = unfold abs in refl

pub abs-round : (f : Format) (s : Bool) (a c : ℕ) → abs (round f s a c) ≡ round f false a c
abs-round f s a c =
    let n = a * 2 ^ low f in
    let k = size (n / c) - prec f in
    let u = c * 2 ^ k in
    rw (round_is f s a c, round_is f false a c) (abs_units f s (nearest (n / u) (compare (n % u * 2) u)) k)
