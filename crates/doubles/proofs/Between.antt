-- Interval arithmetic on finite values with a clear sign bit. `Between lo hi x` says that x lies from lo to hi. Each operation takes intervals to the interval of
-- the operation's own results at the ends. With closed ends antt computes the new ends, and the one side condition, that the new upper end is finite, is `tt`.
-- Nothing is rounded by hand, and no error is estimated. Assumes nothing.
use mathlib.Core.Path.{◌≡◌, refl, sym, ap, ◌∙◌}
use Prim.Native.Nat.{ℕ, ◌+◌, ◌-◌, ◌*◌, ◌≤◌, ◌<◌, zero-le, suc-le-suc}
use native.Mathlib.Nat.{le_refl, le_trans, le_of_eq, le_of_lt, sub-le, mul-pos, mul_assoc, mul_comm, mul_left_comm, mul-le-mul_right, zero-mul}
use native.Mathlib.Omega.{arith}
use mathlib.Core.Bool.{Bool, true, false, not, ◌&&◌, cond}
use lib.IntN.{ℤ, pos}
use lib.Dec.{T, leb, eqb, ltb, leb→le, nleb→lt, ltb→lt, nltb→le, lt→ltb, T_not, not_T}
use lib.Ieee.{Float, nan, inf, fin, Format, up, down, round, fits, sum, add, sub, mul, div, le, unlike}
use lib.Ieee.Order.{round_mono}
use lib.Ieee.Positive.{num, den, den_pos, positive, first_pos}
use Rattle.doubles.specs.Magnitude.{abs, finite_unsigned}
use Rattle.doubles.proofs.FiniteUnsigned.{le→cross, cross→le, le_trans_finite_unsigned, round-finite_unsigned, add_is, mul_is, div_is, add_mono, mul_mono, div_mono, abs-round, num_pos}
use Rattle.doubles.proofs.Value.{round-own}

pub record Between (lo hi x : Float) : Type 0 where
  pub lo_ok : T (finite_unsigned lo)
  pub hi_ok : T (finite_unsigned hi)
  pub ok : T (finite_unsigned x)
  pub low : T (le lo x)
  pub high : T (le x hi)

pub le_self : (x : Float) → T (finite_unsigned x) → T (le x x)
le_self x p = cross→le x x p p (le_refl (num x * den x))

pub point : (x : Float) → T (finite_unsigned x) → Between x x x
point x p = record { lo_ok = p; hi_ok = p; ok = p; low = le_self x p; high = le_self x p }

pub wider : (lo hi : Float) {a b x : Float} → T (finite_unsigned lo) → T (finite_unsigned hi) → T (le lo a) → T (le b hi) → Between a b x → Between lo hi x
wider lo hi {a} {b} {x} p q l h w = record {
  lo_ok = p;
  hi_ok = q;
  ok = w.ok;
  low = le_trans_finite_unsigned lo a x p w.lo_ok w.ok l w.low;
  high = le_trans_finite_unsigned x b hi w.ok w.hi_ok q w.high h;
}

-- ---- the operations
make : (f : Format) (lo x hi : Float) (a c b d : ℕ) → lo ≡ round f false a c → x ≡ round f false b d → T (finite_unsigned hi) → T (le lo x) → T (le x hi) → Between lo hi x
make f lo x hi a c b d e g p l h =
    let k : T (finite_unsigned x) = rw g (round-finite_unsigned f b d hi p (rw g at h)) in
    let j : T (finite_unsigned lo) = rw e (round-finite_unsigned f a c x k (rw e at l)) in
    record { lo_ok = j; hi_ok = p; ok = k; low = l; high = h }

pub between_add : (f : Format) {a b x c d y : Float} → Between a b x → Between c d y → T (finite_unsigned (add f b d)) → Between (add f a c) (add f b d) (add f x y)
between_add f {a} {b} {x} {c} {d} {y} v w t =
    make f (add f a c) (add f x y) (add f b d) (num a * den c + num c * den a) (den a * den c) (num x * den y + num y * den x) (den x * den y)
    (add_is f a c v.lo_ok w.lo_ok) (add_is f x y v.ok w.ok) t
    (add_mono f a x c y v.lo_ok v.ok w.lo_ok w.ok v.low w.low)
    (add_mono f x b y d v.ok v.hi_ok w.ok w.hi_ok v.high w.high)

pub between_mul : (f : Format) {a b x c d y : Float} → Between a b x → Between c d y → T (finite_unsigned (mul f b d)) → Between (mul f a c) (mul f b d) (mul f x y)
between_mul f {a} {b} {x} {c} {d} {y} v w t =
    make f (mul f a c) (mul f x y) (mul f b d) (num a * num c) (den a * den c) (num x * num y) (den x * den y)
    (mul_is f a c v.lo_ok w.lo_ok) (mul_is f x y v.ok w.ok) t
    (mul_mono f a x c y v.lo_ok v.ok w.lo_ok w.ok v.low w.low)
    (mul_mono f x b y d v.ok v.hi_ok w.ok w.hi_ok v.high w.high)

-- a divisor whose lower end is above zero is above zero
cross_pos : (n d m e : ℕ) → 0 < n * e → n * e ≤ m * d → 0 < m * d
cross_pos n d m e h k = omega arith

pub positive_of_num : (x : Float) → T (finite_unsigned x) → 0 < num x * 1 → T (positive x)
positive_of_num nan p h = absurd p
positive_of_num (inf s) p h = absurd p
positive_of_num (fin true m e) p h = absurd p
positive_of_num (fin false m e) p h = pos_m m (up e) h
  where
    pos_m : (m u : ℕ) → 0 < m * u * 1 → T (ltb 0 m)
    pos_m m u h = lt→ltb 0 m (first_pos m u (first_pos (m * u) 1 h))

pub positive_between : {lo hi x : Float} → Between lo hi x → T (positive lo) → T (positive x)
positive_between {lo} {hi} {x} w p =
    let h : 0 < num x * den lo = cross_pos (num lo) (den lo) (num x) (den x) (mul-pos (num_pos lo p) (den_pos x)) (le→cross lo x w.lo_ok w.ok w.low) in
    let k : 0 < num x = first_pos (num x) (den lo) h in
    positive_of_num x w.ok (mul-pos k (suc-le-suc zero-le))

pub between_div : (f : Format) {a b x c d y : Float} → Between a b x → Between c d y → T (positive c) → T (finite_unsigned (div f b c)) → Between (div f a d) (div f b c) (div f x y)
between_div f {a} {b} {x} {c} {d} {y} v w p t =
    let q : T (positive y) = positive_between w p in
    let r : T (positive d) = positive_between (record { lo_ok = w.ok; hi_ok = w.hi_ok; ok = w.hi_ok; low = w.high; high = le_self d w.hi_ok }) q in
    make f (div f a d) (div f x y) (div f b c) (num a * den d) (num d * den a) (num x * den y) (num y * den x)
    (div_is f a d v.lo_ok r) (div_is f x y v.ok q) t
    (div_mono f a x d y v.lo_ok v.ok r q v.low w.high)
    (div_mono f x b y c v.ok v.hi_ok q p v.high w.low)

-- ---- the distance |x ⊖ y| is no more than the larger
abbrev pub +0 : Float
+0 = fin false 0 (pos 0)

pub distance : ℕ → ℕ → ℕ
distance a b = (a - b) + (b - a)

distance-lt : (a b : ℕ) → a < b → b - a ≡ distance a b
unfolding distance
distance-lt a b h = omega arith

distance-ge : (a b : ℕ) → b ≤ a → a - b ≡ distance a b
unfolding distance
distance-ge a b h = omega arith

abs-sum : (f : Format) (a b c : ℕ) → abs (sum f false a true b c) ≡ round f false (distance a b) c
unfolding sum
abs-sum f a b c = go (ltb a b) (ltb→lt a b) (nltb→le a b)
  where
    go : (t : Bool) → (T t → a < b) → (T (not t) → b ≤ a) → abs (cond t (round f true (b - a) c) (round f (false && ltb b a) (a - b) c)) ≡ round f false (distance a b) c
    go true h k = abs-round f true (b - a) c ∙ ap (λ (x : ℕ). round f false x c) (distance-lt a b (h tt))
    go false h k = abs-round f false (a - b) c ∙ ap (λ (x : ℕ). round f false x c) (distance-ge a b (k tt))

pub abs-sub-is : (f : Format) (x y : Float) → T (finite_unsigned x) → T (finite_unsigned y) → abs (sub f x y) ≡ round f false (distance (num x * den y) (num y * den x)) (den x * den y)
unfolding sub
abs-sub-is f nan y p q = absurd p
abs-sub-is f (inf s) y p q = absurd p
abs-sub-is f (fin true m e) y p q = absurd p
abs-sub-is f (fin false m e) nan p q = absurd q
abs-sub-is f (fin false m e) (inf t) p q = absurd q
abs-sub-is f (fin false m e) (fin true n d) p q = absurd q
abs-sub-is f (fin false m e) (fin false n d) p q = abs-sum f (m * up e * down d) (n * up d * down e) (down e * down d)

distance-le : (a b k l : ℕ) → a * k ≤ l → b * k ≤ l → distance a b * k ≤ l
distance-le a b k l h g = go (ltb a b) (ltb→lt a b) (nltb→le a b)
  where
    go : (t : Bool) → (T t → a < b) → (T (not t) → b ≤ a) → distance a b * k ≤ l
    go true p q = le_trans (mul-le-mul_right k (le_trans (le_of_eq (sym (distance-lt a b (p tt)))) (sub-le b a))) g
    go false p q = le_trans (mul-le-mul_right k (le_trans (le_of_eq (sym (distance-ge a b (q tt)))) (sub-le a b))) h

own-round : (f : Format) (x : Float) → T (finite_unsigned x) → T (fits f x) → round f false (num x) (den x) ≡ x
own-round f nan p q = absurd p
own-round f (inf s) p q = absurd p
own-round f (fin true m e) p q = absurd p
own-round f (fin false m e) p q = round-own f false m e q

pub +0-le : (x : Float) → T (finite_unsigned x) → T (le +0 x)
+0-le x p = cross→le +0 x tt p (le_trans (le_of_eq (zero-mul (den x))) zero-le)

pub between_distance : (f : Format) {a c m x y : Float} → T (fits f m) → Between a m x → Between c m y → Between +0 m (abs (sub f x y))
between_distance f {a} {c} {m} {x} {y} t v w =
    let X : num x * den m ≤ num m * den x = le→cross x m v.ok v.hi_ok v.high in
    let Y : num y * den m ≤ num m * den y = le→cross y m w.ok w.hi_ok w.high in
    let e = abs-sub-is f x y v.ok w.ok in
    let p : num x * den y * den m ≤ num m * (den x * den y) = simp (mul_assoc, mul_comm, mul_left_comm) (simp (mul_assoc, mul_comm, mul_left_comm) at (mul-le-mul_right (den y) X)) in
    let q : num y * den x * den m ≤ num m * (den x * den y) = simp (mul_assoc, mul_comm, mul_left_comm) (simp (mul_assoc, mul_comm, mul_left_comm) at (mul-le-mul_right (den x) Y)) in
    let g = distance (num x * den y) (num y * den x) in
    let r : T (le (round f false g (den x * den y)) (round f false (num m) (den m))) =
    round_mono f g (den x * den y) (num m) (den m) (mul-pos (den_pos x) (den_pos y)) (den_pos m) (distance-le (num x * den y) (num y * den x) (den m) (num m * (den x * den y)) p q) in
    let h : T (le (abs (sub f x y)) m) = rw e (rw (own-round f m v.hi_ok t) at r) in
    let k : T (finite_unsigned (abs (sub f x y))) = rw e (round-finite_unsigned f g (den x * den y) m v.hi_ok (rw e at h)) in
    record { lo_ok = tt; hi_ok = v.hi_ok; ok = k; low = +0-le (abs (sub f x y)) k; high = h }

-- ---- a comparison that the ends decide
pub abs-finite_unsigned : (x : Float) → T (finite_unsigned x) → abs x ≡ x
unfolding abs
abs-finite_unsigned nan p = absurd p
abs-finite_unsigned (inf s) p = absurd p
abs-finite_unsigned (fin true m e) p = absurd p
abs-finite_unsigned (fin false m e) p = refl

pub not-le : {a b x c d y : Float} → Between a b x → Between c d y → T (not (le a d)) → T (not (le x y))
not-le {a} {b} {x} {c} {d} {y} v w t =
    not_T (le x y) (λ (h : T (le x y)).
    T_not (le a d) t (le_trans_finite_unsigned a x d v.lo_ok v.ok w.hi_ok v.low (le_trans_finite_unsigned x y d v.ok w.ok w.hi_ok h w.high)))

-- ---- of two values one is no more than the other; what is no more than a finite value is finite
pub le_total : (x y : Float) → T (finite_unsigned x) → T (finite_unsigned y) → T (not (le x y)) → T (le y x)
le_total x y p q n = go (leb (num y * den x) (num x * den y)) (leb→le (num y * den x) (num x * den y)) (nleb→lt (num y * den x) (num x * den y))
  where
    go : (t : Bool) → (T t → num y * den x ≤ num x * den y) → (T (not t) → num x * den y < num y * den x) → T (le y x)
    go true h k = cross→le y x q p (h tt)
    go false h k = absurd (T_not (le x y) n (cross→le x y p q (le_of_lt (k tt))))

pub abs_finite : (z hi : Float) → T (finite_unsigned hi) → T (le (abs z) hi) → T (finite_unsigned (abs z))
unfolding abs le
abs_finite nan hi p h = absurd h
abs_finite (inf s) nan p h = absurd p
abs_finite (inf s) (inf t) p h = absurd p
abs_finite (inf s) (fin true m e) p h = absurd p
abs_finite (inf s) (fin false m e) p h = absurd h
abs_finite (fin s m e) hi p h = tt

-- ---- z² and 1/z see only |z|
pub mul_self : (f : Format) (z : Float) → mul f z z ≡ mul f (abs z) (abs z)
unfolding mul abs
mul_self f nan = refl
mul_self f (inf true) = refl
mul_self f (inf false) = refl
mul_self f (fin true m e) = refl
mul_self f (fin false m e) = refl

pub abs-div : (f : Format) (m : ℕ) (e : ℤ) (z : Float) → abs (div f (fin false m e) z) ≡ div f (fin false m e) (abs z)
unfolding div abs
abs-div f m e nan = refl
abs-div f m e (inf s) = refl
abs-div f m e (fin s n d) = go (eqb n 0) (eqb m 0)
  where
    go : (a b : Bool) → abs (cond a (cond b nan (inf (unlike false s))) (round f (unlike false s) (m * up e * down d) (n * up d * down e))) ≡ cond a (cond b nan (inf false)) (round f false (m * up e * down d) (n * up d * down e))
    go true true = refl
    go true false = refl
    go false b = abs-round f (unlike false s) (m * up e * down d) (n * up d * down e)
