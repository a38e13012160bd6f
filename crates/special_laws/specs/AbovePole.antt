-- For `InnerRj`. States: `p'-above`: R_J for p below zero hands R_J a p' that is neither zero nor below it: it is above zero, or an infinity, or a NaN; `inner_of`:
-- so the inner call goes to the loop, as `rj_sorted` says. Before them `add-unsigned` and `sub-unsigned`: which sums and differences have no sign. Assumes nothing.
use Rattle.std.specs.Prelude.{◌≡◌, refl, Bool, true, false, not, ◌&&◌, cond, ℕ, zero, suc, ◌+◌, ◌-◌, ◌*◌, ◌^◌, ◌≤◌, ◌<◌, T, ltb, eqb, Float}
use Rattle.std.proofs.Common.{le_trans, not-le_of_lt, mul-pos, arith, ltb→lt}
use Rattle.std.specs.Float.{nan, inf, fin, Format, binary64}
use Rattle.std.specs.Float.Ieee.{up, down, odd, units, round, sum, neg, add, sub, mul, div, lt, le, eq, fits, of_bits, prec, low, emax}
use Rattle.std.specs.Float.Ieee.Fits.{round_is}
use Rattle.std.specs.Float.Ieee.Order.{round_mono}
use Rattle.std.specs.Float.Ieee.Positive.{num, den, den_pos, positive, first_pos}
use Rattle.doubles.specs.Rounded.{◌⊕◌, ◌⊖◌, ◌⊗◌, ◌⊘◌}
use Rattle.doubles.specs.Constants.{0·0}
use Rattle.doubles.specs.Magnitude.{finite_unsigned}
use Rattle.doubles.proofs.FiniteUnsigned.{finite_unsigned_of_positive, le→cross, num_pos}
use Rattle.doubles.proofs.Value.{round-own}
use Rattle.doubles.proofs.Between.{positive_of_num}
use Rattle.doubles.proofs.Signs.{above_zero}
use Rattle.special_rj.specs.Rj.{p', rj, rj_above}

-- no sign: a NaN, +∞, or finite with a clear sign bit (`finite_unsigned`)
abbrev pub unsigned : Float → Bool
unsigned nan = true
unsigned (inf s) = not s
unsigned (fin s m e) = not s

odd_unsigned : (d q k l : ℕ) → T (unsigned (odd d false q k l))
unfolding odd
odd_unsigned d zero k l = tt
odd_unsigned d (suc q) k l = tt

units_unsigned : (f : Format) (q k : ℕ) → T (unsigned (units f false q k))
unfolding units
units_unsigned f q k = go (ltb (q * 2 ^ k) (2 ^ (low f + suc (emax f))))
  where
    go : (b : Bool) → T (unsigned (cond b (odd (suc (prec f)) false q k (low f)) (inf false)))
    go true = odd_unsigned (suc (prec f)) q k (low f)
    go false = tt

round-unsigned : (f : Format) (a c : ℕ) → T (unsigned (round f false a c))
round-unsigned f a c = rw (round_is f false a c) (units_unsigned f _ _)

-- ---- the operations
pub add-unsigned : (f : Format) (x y : Float) → T (unsigned x) → T (unsigned y) → T (unsigned (add f x y))
unfolding add sum
add-unsigned f nan y p q = tt
add-unsigned f (inf true) y p q = absurd p
add-unsigned f (inf false) nan p q = tt
add-unsigned f (inf false) (inf true) p q = absurd q
add-unsigned f (inf false) (inf false) p q = tt
add-unsigned f (inf false) (fin t n d) p q = tt
add-unsigned f (fin true m e) y p q = absurd p
add-unsigned f (fin false m e) nan p q = tt
add-unsigned f (fin false m e) (inf t) p q = q
add-unsigned f (fin false m e) (fin true n d) p q = absurd q
add-unsigned f (fin false m e) (fin false n d) p q = round-unsigned f _ _

0·∞-unsigned : (b : Bool) → T (unsigned (cond b nan (inf false)))
0·∞-unsigned true = tt
0·∞-unsigned false = tt

mul-unsigned : (f : Format) (x y : Float) → T (unsigned x) → T (unsigned y) → T (unsigned (mul f x y))
unfolding mul
mul-unsigned f nan y p q = tt
mul-unsigned f (inf true) y p q = absurd p
mul-unsigned f (inf false) nan p q = tt
mul-unsigned f (inf false) (inf true) p q = absurd q
mul-unsigned f (inf false) (inf false) p q = tt
mul-unsigned f (inf false) (fin true n d) p q = absurd q
mul-unsigned f (inf false) (fin false n d) p q = 0·∞-unsigned (eqb n 0)
mul-unsigned f (fin true m e) y p q = absurd p
mul-unsigned f (fin false m e) nan p q = tt
mul-unsigned f (fin false m e) (inf true) p q = absurd q
mul-unsigned f (fin false m e) (inf false) p q = 0·∞-unsigned (eqb m 0)
mul-unsigned f (fin false m e) (fin true n d) p q = absurd q
mul-unsigned f (fin false m e) (fin false n d) p q = round-unsigned f _ _

div-unsigned : (f : Format) (x y : Float) → T (unsigned x) → T (unsigned y) → T (unsigned (div f x y))
unfolding div
div-unsigned f nan y p q = tt
div-unsigned f (inf true) y p q = absurd p
div-unsigned f (inf false) nan p q = tt
div-unsigned f (inf false) (inf t) p q = tt
div-unsigned f (inf false) (fin true n d) p q = absurd q
div-unsigned f (inf false) (fin false n d) p q = tt
div-unsigned f (fin true m e) y p q = absurd p
div-unsigned f (fin false m e) nan p q = tt
div-unsigned f (fin false m e) (inf true) p q = absurd q
div-unsigned f (fin false m e) (inf false) p q = tt
div-unsigned f (fin false m e) (fin true n d) p q = absurd q
div-unsigned f (fin false m e) (fin false n d) p q = go (eqb n 0) (eqb m 0)
  where
    go : (a b : Bool) → T (unsigned (cond a (cond b nan (inf false)) (round f false (m * up e * down d) (n * up d * down e))))
    go true b = 0·∞-unsigned b
    go false b = round-unsigned f _ _

pub sub-unsigned : (f : Format) (x y : Float) → T (finite_unsigned x) → T (finite_unsigned y) → T (le y x) → T (unsigned (sub f x y))
unfolding sub add neg sum
sub-unsigned f nan y p q h = absurd p
sub-unsigned f (inf s) y p q h = absurd p
sub-unsigned f (fin true m e) y p q h = absurd p
sub-unsigned f (fin false m e) nan p q h = absurd q
sub-unsigned f (fin false m e) (inf t) p q h = absurd q
sub-unsigned f (fin false m e) (fin true n d) p q h = absurd q
sub-unsigned f (fin false m e) (fin false n d) p q h =
    go (m * up e * down d) (n * up d * down e) (down e * down d) (le→cross (fin false n d) (fin false m e) tt tt h) (ltb (m * up e * down d) (n * up d * down e)) (ltb→lt (m * up e * down d) (n * up d * down e))
  where
    go : (a b c : ℕ) → b ≤ a → (t : Bool) → (T t → a < b) → T (unsigned (cond t (round f true (b - a) c) (round f (false && ltb b a) (a - b) c)))
    go a b c h true u = absurd (not-le_of_lt (u tt) h)
    go a b c h false u = round-unsigned f (a - b) c

-- ---- y plus what has no sign stays above zero
abbrev Above : Float → Type 0
Above r = (eq r 0·0 ≡ false) × (lt r 0·0 ≡ false)

no_less : (a b c d : ℕ) → a * (b * d) ≤ (a * d + c * b) * b
no_less a b c d = omega arith

at_least : (y r : Float) → T (positive y) → T (unsigned r) → T (le y r) → Above r
unfolding of_bits lt eq
at_least y nan p q h = (refl, refl)
at_least y (inf true) p q h = absurd q
at_least y (inf false) p q h = (refl, refl)
at_least y (fin true m e) p q h = absurd q
at_least y (fin false m e) p q h =
    let g : num y * den (fin false m e) ≤ num (fin false m e) * den y = le→cross y (fin false m e) (finite_unsigned_of_positive y p) tt h in
    let k : 0 < num (fin false m e) * den y = le_trans (mul-pos (num_pos y p) (den_pos (fin false m e))) g in
    above_zero (fin false m e) (positive_of_num (fin false m e) tt (mul-pos (first_pos (num (fin false m e)) (den y) k) (den_pos nan)))

sum-above : (y t : Float) → T (positive y) → T (fits binary64 y) → T (unsigned t) → Above (y ⊕ t)
unfolding add sum lt eq of_bits
sum-above nan t p g q = absurd p
sum-above (inf s) t p g q = absurd p
sum-above (fin true m e) t p g q = absurd p
sum-above (fin false m e) nan p g q = (refl, refl)
sum-above (fin false m e) (inf true) p g q = absurd q
sum-above (fin false m e) (inf false) p g q = (refl, refl)
sum-above (fin false m e) (fin true n d) p g q = absurd q
sum-above (fin false m e) (fin false n d) p g q =
    let a = m * up e * down d + n * up d * down e in
    let c = down e * down d in
    let own : round binary64 false (m * up e) (down e) ≡ fin false m e = round-own binary64 false m e g in
    let h : T (le (round binary64 false (m * up e) (down e)) (round binary64 false a c)) =
    round_mono binary64 (m * up e) (down e) a c (den_pos (fin false m e)) (mul-pos (den_pos (fin false m e)) (den_pos (fin false n d))) (no_less (m * up e) (down e) (n * up d) (down d)) in
    at_least (fin false m e) (round binary64 false a c) p (round-unsigned binary64 a c) (rw own at h)

-- ---- x ≤ y ≤ z, y above zero, and q above zero (x may be -0)
pub p'-above : (x y z q : Float) → T (positive y) → T (fits binary64 y) → T (finite_unsigned z) → T (positive q) → T (unsigned (y ⊖ x)) → T (le y z) → Above (p' x y z q)
p'-above x y z q p g r s u v =
    let w : T (finite_unsigned y) = finite_unsigned_of_positive y p in
    sum-above y ((z ⊖ y) ⊗ (y ⊖ x) ⊘ (y ⊕ q)) p g
    (div-unsigned binary64 ((z ⊖ y) ⊗ (y ⊖ x)) (y ⊕ q) (mul-unsigned binary64 (z ⊖ y) (y ⊖ x) (sub-unsigned binary64 z y r w v) u) (add-unsigned binary64 y q (unsigned_of y w) (unsigned_of q (finite_unsigned_of_positive q s))))
  where
    unsigned_of : (x : Float) → T (finite_unsigned x) → T (unsigned x)
    unsigned_of nan p = absurd p
    unsigned_of (inf s) p = absurd p
    unsigned_of (fin true m e) p = absurd p
    unsigned_of (fin false m e) p = tt

-- so the inner call is the one for p above zero
abbrev pub Inner : Float → Float → Float → Float → Type 0
Inner x y z q = rj x y z (p' x y z q) ≡ rj_above x y z (p' x y z q)

pub inner_of : (x y z q : Float) → Above (p' x y z q) → Inner x y z q
unfolding rj
inner_of x y z q a = simp (a.0, a.1)
